-- The moments of media errors.
use Rattle.std.proofs.Common.{◌≡◌, ◌⊎◌, ℕ, ◌+◌, ◌-◌, ◌^◌, ◌<◌, ◌≤◌, Bool, true, false, cond, List, [], ◌∷◌, ◌++◌, refl, sym, ◌∙◌, ap, subst, arith, append_assoc, ⊎_elim, inl, inr}
use Rattle.std.specs.Prelude.{Contains, IsTrue, count_by, if◌then◌else◌}
use Rattle.std.proofs.lemmas.List.{append-nil}
use Rattle.std.proofs.lemmas.List.Elements.{Contains-append_cases, Contains-push_cases}
use Rattle.std.proofs.lemmas.List.Sums.{sum_by-cons}
use Rattle.fdp_base.specs.declared.command.Command.{Command}
use Rattle.fdp_base.specs.declared.config.DriveConfig.{DriveConfig}
use Rattle.fdp_base.specs.declared.entry.Entry.{Entry}
use Rattle.fdp_base.specs.declared.entry.Entry.TheVariants as entries
use Rattle.fdp_base.specs.declared.entry.Reply.{Reply}
use Rattle.fdp_base.specs.Counts.{Rose}
use Rattle.fdp_book.specs.Book.{BookSeen, IsLonger, state_in}
use Rattle.fdp_calls.specs.Calls.{FailedAt}
use Rattle.fdp_flash.specs.FlashState.{FlashState}
use Rattle.fdp_rules.specs.Change.{after, changed_by, is_media_error}
use Rattle.fdp_rules.specs.History.{Found, point_of}
use Rattle.fdp_rules.specs.Next.{next}
use Rattle.fdp_rules.specs.Point.{Point}
use Rattle.fdp_rules.specs.Step.{IsNewMoment}
use Rattle.fdp_rules.proofs.Pushes.{point_of-push}
use Rattle.fdp_ledger.specs.declared.counts.Counts.{Counts}
use Rattle.fdp_ledger.specs.Calls.{MayTell}
use Rattle.fdp_ledger.specs.Ledger.{IsLedger}
use Rattle.fdp_ledger.specs.Told.{is_media_reply}
use Rattle.fdp_ledger.proofs.Counting.{one-more_bound}
use Rattle.fdp_ledger.proofs.Entries.{count-push}
use Rattle.fdp_book.proofs.Longer.{point-as}
use Rattle.fdp_base.proofs.Entries.{by-host}
use Rattle.fdp_rules.proofs.LastWrites.{uncompleted-keeps}

-- ---- what an entry adds to them

-- an entry that tells of no media error
pub media-kept : (c : DriveConfig) (p : Point) (e : Entry) → is_media_reply e ≡ false → (next c p e).state.media ≡ p.state.media
unfolding next after changed_by
media-kept c p e none =
    by-host (λ x. is_media_reply x ≡ false → (next c p x).state.media ≡ p.state.media)
    (λ h quiet. ap (λ (b : Bool). if b then h.moment ∷ p.state.media else p.state.media) quiet)
    (λ x other quiet. (uncompleted-keeps c p.state x other).media)
    e none

-- a completed command adds its moment, or none
pub media-host : (c : DriveConfig) (p : Point) (queue number : ℕ) (command : Command) (reply : Reply) (moment : ℕ) → (next c p (entries.Host (record { queue = queue; number = number; command = command; reply = reply; moment = moment }))).state.media ≡ (if is_media_error reply.status then moment ∷ p.state.media else p.state.media)
unfolding next after changed_by
media-host c p queue number command reply moment = refl

none-here : (b : Bool) (n : ℕ) → cond {A = ℕ} b 1 0 + n ≡ 0 → b ≡ false
none-here true n e = absurd (omega (arith, e))
none-here false n e = refl

-- entries that tell of none
quiet-point : (c : DriveConfig) (f : Found) (es xs : List Entry) → count_by is_media_reply xs ≡ 0 → (point_of c f (es ++ xs)).state.media ≡ (point_of c f es).state.media
quiet-point c f es [] quiet = ap (λ (ys : List Entry). (point_of c f ys).state.media) (append-nil es)
quiet-point c f es (x ∷ xs) quiet =
    let parts : cond {A = ℕ} (is_media_reply x) 1 0 + count_by is_media_reply xs ≡ 0 = omega (arith, quiet, sum_by-cons (λ e. if is_media_reply e then 1 else 0) x xs) in
    ap (λ (ys : List Entry). (point_of c f ys).state.media) (sym (append_assoc es (x ∷ []) xs))
    ∙ quiet-point c f (es ++ x ∷ []) xs (omega (arith, parts))
    ∙ ap (λ (p : Point). p.state.media) (point_of-push c f es x)
    ∙ media-kept c (point_of c f es) x (none-here (is_media_reply x) (count_by is_media_reply xs) parts)

pub quiet-media : (b new : BookSeen) (es : List Entry) → IsLonger b new es → count_by is_media_reply es ≡ 0 → (state_in new).media ≡ (state_in b).media
quiet-media b new es longer quiet = ap (λ (p : Point). p.state.media) (point-as b new es longer) ∙ quiet-point b.config b.found b.entries es quiet

-- behind entries that tell of none, a completed command
pub host-media : (b new : BookSeen) (es : List Entry) (queue number : ℕ) (command : Command) (reply : Reply) (moment : ℕ) → IsLonger b new (es ++ entries.Host (record { queue = queue; number = number; command = command; reply = reply; moment = moment }) ∷ []) → count_by is_media_reply es ≡ 0 → (state_in new).media ≡ (if is_media_error reply.status then moment ∷ (state_in b).media else (state_in b).media)
host-media b new es queue number command reply moment longer quiet =
    let host : Entry = entries.Host (record { queue = queue; number = number; command = command; reply = reply; moment = moment }) in
    ap (λ (p : Point). p.state.media) (point-as b new (es ++ host ∷ []) longer)
    ∙ ap (λ (ys : List Entry). (point_of b.config b.found ys).state.media) (sym (append_assoc b.entries es (host ∷ [])))
    ∙ ap (λ (p : Point). p.state.media) (point_of-push b.config b.found (b.entries ++ es) host)
    ∙ media-host b.config (point_of b.config b.found (b.entries ++ es)) queue number command reply moment
    ∙ ap (λ (media : List ℕ). if is_media_error reply.status then moment ∷ media else media) (quiet-point b.config b.found b.entries es quiet)

-- ---- none is later than the flash's

-- what has passed has passed
abbrev pub HavePassed : List ℕ → ℕ → Type 0
HavePassed media now = (moment : ℕ) → Contains media moment → moment ≤ now

cons-cases : (x : ℕ) (xs : List ℕ) (y : ℕ) → Contains (x ∷ xs) y → (x ≡ y) ⊎ Contains xs y
cons-cases x xs y h = ⊎_elim
    (λ here. ⊎_elim (λ (none : Contains [] y). absurd (omega (arith, none.1))) (λ (is : x ≡ y). inl is) (Contains-push_cases [] x y here))
    (λ rest. inr rest)
    (Contains-append_cases (x ∷ []) xs y h)

pub passed-later : (media now : List ℕ) (a b : ℕ) → now ≡ media → a ≤ b → HavePassed media a → HavePassed now b
passed-later media now a b same up h moment among = let low = h moment (subst (λ (xs : List ℕ). Contains xs moment) same among) in omega (arith, low, up)

pub passed-told : (media : List ℕ) (moment a b : ℕ) (error : Bool) → a ≤ b → (IsTrue error → moment ≤ b) → HavePassed media a → HavePassed (if error then moment ∷ media else media) b
passed-told media moment a b true up until h other among = ⊎_elim
    (λ (is : moment ≡ other). let low = until refl in omega (arith, is, low))
    (λ (rest : Contains media other). let low = h other rest in omega (arith, low, up))
    (cons-cases moment media other among)
passed-told media moment a b false up until h other among = let low = h other among in omega (arith, low, up)

-- where a call failed since there was this ledger, and only entries were added that tell of no media error, its moment is new
pub new-moment : (handed : Counts) (b new : BookSeen) (old now : FlashState) (es : List Entry) (moment : ℕ) → IsLonger b new es → count_by is_media_reply es ≡ 0 → FailedAt old now moment → old.moment < 2 ^ 64 - 1 → IsLedger handed b old → IsNewMoment (state_in new) moment
new-moment handed b new old now es moment longer quiet failed few was among =
    let low = was.moments moment (subst (λ (xs : List ℕ). Contains xs moment) (quiet-media b new es longer quiet) among) in
    omega (arith, low, few, failed.since)

-- and a reply may tell of it
pub may-tell : (handed : Counts) (b new : BookSeen) (old now : FlashState) (es : List Entry) (moment : ℕ) → IsLonger b new es → count_by is_media_reply es ≡ 0 → old.faults ≤ now.faults → Rose old.faults now.faults → FailedAt old now moment → IsLedger handed b old → MayTell handed new now moment
may-tell handed b new old now es moment longer quiet up rose failed was =
    let count : count_by is_media_reply new.entries ≡ count_by is_media_reply b.entries = ap (count_by is_media_reply) longer.entries_are ∙ omega (arith, count-push is_media_reply b.entries es, quiet) in
    record {
      fault = one-more_bound handed.faults (count_by is_media_reply b.entries) _ old.faults now.faults was.handed_is (omega (arith, count)) up rose was.counted.media_replies;
      until = failed.until;
    }
