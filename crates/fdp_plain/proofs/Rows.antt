-- The rows of the tables after an entry.
use Rattle.std.proofs.Common.{◌≡◌, ◌⊎◌, inl, inr, ℕ, ◌+◌, ◌<◌, Bool, true, false, cond, List, Option, None, Some, refl, sym, ◌∙◌, ap, ⊎_elim}
use Rattle.std.specs.Prelude.{if◌then◌else◌, option_map, slice_get, length}
use Rattle.std.proofs.lemmas.Option.{slice_get_within}
use Rattle.fdp_base.specs.declared.config.DriveConfig.{DriveConfig}
use Rattle.fdp_base.specs.declared.entry.Entry.{Entry}
use Rattle.fdp_base.specs.declared.entry.Entry.TheVariants as entries
use Rattle.fdp_rules.specs.Change.{changed_by, holds_ticket, one_more_placed, started}
use Rattle.fdp_base.specs.CommandKinds.{blocks_written, is_write}
use Rattle.fdp_base.specs.Numbers.{with_at}
use Rattle.fdp_rules.specs.PlainState.{Going, PlainState}
use Rattle.fdp_tables.specs.declared.state.Kept.{Kept}
use Rattle.fdp_plain_trail.specs.Rows.{places_of}
use Rattle.fdp_tables.specs.State.{plain_of}
use Rattle.fdp_base.proofs.Entries.{by-entry}
use Rattle.fdp_history.proofs.Others.{others-before}
use Rattle.fdp_history.proofs.Tables.{with_at-each}
use Rattle.fdp_plain.specs.Prepared.{pages_of}
use Rattle.fdp_plain.specs.Rows.{HasRows}

-- ---- the writes that are going

-- a write was going before with this ticket and this command, or it was let go by the entry
abbrev pub ComesFrom : PlainState → Entry → ℕ → Going → Type 0
ComesFrom s e queue g =
    ((x : Going) × (s.going queue ≡ Some x) × (x.ticket ≡ g.ticket) × (x.command ≡ g.command))
    ⊎ ((g.ticket ≡ s.position + 1) × (blocks_written g.command ≡ pages_of e))

kept_going : (s : PlainState) (e : Entry) (queue : ℕ) (g : Going) → s.going queue ≡ Some g → ComesFrom s e queue g
kept_going s e queue g some = inl (g, some, refl, refl)

-- after a command no write more is going
fewer_going : (s : PlainState) (e : Entry) (queue : ℕ) (b : Bool) (i : ℕ) (g : Going) → (if b then with_at s.going queue None else s.going) i ≡ Some g → ComesFrom s e i g
fewer_going s e queue true i g some = with_at-each s.going queue None (λ k o. o ≡ Some g → ComesFrom s e k g) (λ none. absurd cc) (λ k ne is. kept_going s e k g is) i some
fewer_going s e queue false i g some = kept_going s e i g some

counted_going : (s : PlainState) (e : Entry) (queue : ℕ) (o : Option Going) (g : Going) → s.going queue ≡ o → option_map one_more_placed o ≡ Some g → ComesFrom s e queue g
counted_going s e queue None g at some = absurd cc
counted_going s e queue (Some x) g at some = let is : one_more_placed x ≡ g = cc in inl (x, at, ap (λ (y : Going). y.ticket) is, ap (λ (y : Going). y.command) is)

placed_from : (s : PlainState) (e : Entry) (ticket queue : ℕ) (b : Bool) (g : Going) → cond b (option_map one_more_placed (s.going queue)) (s.going queue) ≡ Some g → ComesFrom s e queue g
placed_from s e ticket queue true g some = counted_going s e queue (s.going queue) g refl some
placed_from s e ticket queue false g some = kept_going s e queue g some

-- each write that is going after an entry
pub going_from : (c : DriveConfig) (s : PlainState) (e : Entry) (i : ℕ) (g : Going) → (changed_by c s e).going i ≡ Some g → ComesFrom s e i g
unfolding changed_by
going_from c s e i g some =
    let P : Entry → Type 0 = λ x. (changed_by c s x).going i ≡ Some g → ComesFrom s x i g in
    by-entry P
    (λ h is. fewer_going s (entries.Host h) h.queue (is_write h.command) i g is)
    (λ x is.
    let new : Going = started c s x.number x.command x.rg x.ruh x.pid_valid in
    with_at-each s.going x.queue (Some new) (λ k o. o ≡ Some g → ComesFrom s (entries.Started x) k g)
    (λ now. let same : new ≡ g = cc in inr (sym (ap (λ (y : Going). y.ticket) same), sym (ap (λ (y : Going). blocks_written y.command) same)))
    (λ k ne before. kept_going s (entries.Started x) k g before) i is)
    (λ p is. placed_from s (entries.Placed p) p.ticket i (holds_ticket s p.ticket i) g is)
    (λ x other is. kept_going s x i g (others-before c s x other i g is))
    e some

-- ---- their places

counted_within : {V : Type 0} (count : V → ℕ) (xs : List V) (i n : ℕ) → option_map count (slice_get xs i) ≡ Some n → i < length xs
counted_within {V} count xs i n some =
    let P : Option V → Type 0 = λ o. slice_get xs i ≡ o → option_map count o ≡ Some n → i < length xs in
    (elim (slice_get xs i) as P [ None ↦ λ _ none. absurd cc | Some v ↦ λ e _. slice_get_within xs i v e ]) refl some

-- the places of each write that is going after an entry: those that were there, or those that were made for it
pub places_from : (c : DriveConfig) (k m : Kept) (e : Entry) → HasRows k → (plain_of m).going ≡ (changed_by c (plain_of k) e).going
    → ((ticket : ℕ) → ticket < length k.sites.rows → places_of m ticket ≡ places_of k ticket)
    → places_of m (length k.sites.rows) ≡ Some (pages_of e)
    → (queue : ℕ) (g : Going) → (plain_of m).going queue ≡ Some g → places_of m g.ticket ≡ Some (blocks_written g.command)
places_from c k m e rows going earlier latest queue g some =
    let changed : (changed_by c (plain_of k) e).going queue ≡ Some g = sym (ap (λ (f : ℕ → Option Going). f queue) going) ∙ some in
    ⊎_elim
    (λ old.
    let x = old.0 in
    let there : places_of k x.ticket ≡ Some (blocks_written x.command) = rows.pages queue x old.1 in
    ap (places_of m) (sym old.2)
    ∙ earlier x.ticket (counted_within (λ pages. length pages) k.sites.rows x.ticket _ there)
    ∙ there
    ∙ ap (λ command. Some (blocks_written command)) old.3)
    (λ new.
    ap (places_of m) (new.0 ∙ sym rows.sites)
    ∙ latest
    ∙ ap Some (sym new.1))
    (going_from c (plain_of k) e queue g changed)
