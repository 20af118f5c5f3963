use Rattle.std.proofs.Common.{◌≡◌, ℕ, zero, suc, ◌+◌, ◌-◌, Bool, true, false, not, List, [], ◌∷◌, length, drop, refl, sym, ap, ◌∙◌, arith, zero-add}
use Rattle.std.specs.Prelude.{filter, if◌then◌else◌, slice_get}
use Rattle.fdp_base.specs.declared.event.Event.{Event}
use Rattle.fdp_rules.specs.Events.{is_host_event, latest}
use Rattle.fdp_plain_answers.proofs.telling.event.Goals as goal

-- an element of what is left of a list
get_dropped : {X : Type 0} (xs : List X) (n i : ℕ) → slice_get (drop n xs) i ≡ slice_get xs (n + i)
get_dropped xs zero i = ap (slice_get xs) (sym (zero-add i))
get_dropped [] (suc n) i = let e : suc n + i ≡ suc (n + i) = omega arith in sym (ap (slice_get []) e)
get_dropped (x ∷ xs) (suc n) i = let e : suc n + i ≡ suc (n + i) = omega arith in get_dropped xs n i ∙ sym (ap (slice_get (x ∷ xs)) e)

-- the latest events of a class
latest_of : (host : Bool) (es : List Event) → latest (filter (λ e. if host then is_host_event e else not (is_host_event e)) es) ≡ (if host then latest (filter is_host_event es) else latest (filter (λ e. not (is_host_event e)) es))
latest_of true es = refl
latest_of false es = refl

pub returns : goal.returns
returns c =
    let es = c.args.kept.now.events.items in
    let test : Event → Bool = λ e. if c.args.host then is_host_event e else not (is_host_event e) in
    let all = c.events-events.ensures in
    let first : c.saturating_sub-first.result ≡ length (filter test es) - 32 =
    c.saturating_sub-first.ensures ∙ ap (λ n. n - 32) (c.count_of_class.ensures.count ∙ ap (λ (xs : List Event). length (filter test xs)) all) in
    c.event_of_class.ensures
    ∙ ap (λ (xs : List Event). slice_get (filter test xs) (c.saturating_sub-first.result + c.args.index)) all
    ∙ ap (λ n. slice_get (filter test es) (n + c.args.index)) first
    ∙ sym (get_dropped (filter test es) (length (filter test es) - 32) c.args.index)
    ∙ ap (λ (xs : List Event). slice_get xs c.args.index) (latest_of c.args.host es)
