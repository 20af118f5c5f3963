-- With one group of which nothing is lost no command ends with Capacity Exceeded.
use Rattle.std.proofs.Common.{◌≡◌, ◌⊎◌, ℕ, ◌+◌, ◌≤◌, Bool, true, false, not, ◌&&◌, ◌||◌, List, [], ◌∷◌, ◌++◌, Option, Some, None, refl, sym, ◌∙◌, ap, subst, arith, inl, inr, ⊎_elim}
use Rattle.std.specs.Prelude.{◌==◌, ◌/◌, IfSome, IsTrue, MatchBool, nat_lt, if◌then◌else◌}
use Rattle.std.specs.List.{list_all, list_any}
use Rattle.std.specs.Option.{option_map_or}
use Rattle.std.proofs.lemmas.Bool.Decides.{nat_tests}
use Rattle.fdp_base.specs.declared.command.Command.{Command}
use Rattle.fdp_base.specs.declared.command.Command.TheVariants as commands
use Rattle.fdp_base.specs.declared.command.Write.{Write}
use Rattle.fdp_base.specs.declared.config.DriveConfig.{DriveConfig}
use Rattle.fdp_base.specs.declared.entry.Entry.{Entry}
use Rattle.fdp_base.specs.declared.entry.Entry.TheVariants as entries
use Rattle.fdp_base.specs.declared.entry.Host.{Host}
use Rattle.fdp_base.specs.declared.entry.Reply.{Reply}
use Rattle.fdp_base.specs.declared.status.Status.{Status}
use Rattle.fdp_base.specs.declared.status.TheConstants.Status as statuses
use Rattle.fdp_base.specs.CommandKinds.{is_write, write_of}
use Rattle.fdp_base.specs.Config.{IsValidConfig}
use Rattle.fdp_base.specs.Numbers.{with_at}
use Rattle.fdp_base.proofs.Entries.{by-host}
use Rattle.fdp_history.specs.Listed.{IsListed}
use Rattle.fdp_history.specs.Orderly.{IsOrderly}
use Rattle.fdp_history.specs.OrderlyState.{IsOrderlyState}
use Rattle.fdp_history.proofs.Listing.{listed-next}
use Rattle.fdp_history.proofs.Points.{orderly-next}
use Rattle.fdp_rules.specs.Answer.{bare}
use Rattle.fdp_rules.specs.Change.{after, changed_by, is_media_error, is_status}
use Rattle.fdp_rules.specs.Effect.{effect_of}
use Rattle.fdp_rules.specs.History.{Found, first_state, point_of, state_of}
use Rattle.fdp_rules.specs.Legal.{IsLegal, IsLegalAfter}
use Rattle.fdp_rules.specs.Next.{next}
use Rattle.fdp_rules.specs.PlainState.{Going, PlainState}
use Rattle.fdp_rules.specs.Point.{Point}
use Rattle.fdp_rules.specs.Refusal.{Check, checks_of, first_that_holds, has_no_room, is_past_end, refusal_of}
use Rattle.fdp_rules.specs.Room.{is_over_budget, size_of}
use Rattle.fdp_rules.specs.Sites.{is_there}
use Rattle.fdp_rules.specs.Step.{Follows, IsEnd, IsPlainReply, IsRefused, IsWriteFault, IsWriteReply, exceeds_budget}
use Rattle.fdp_rules.proofs.Effects.{by-effect}
use Rattle.fdp_rules.proofs.Pushes.{point_of-push}
use Rattle.fdp_roominess.specs.Capacity.{IsWhole, exceeds_capacity, tells_loss}
use Rattle.fdp_roominess.proofs.Fitting.{never-over}

no : true ≡ false → ⊥
no e = cc

-- a status tells of a want of capacity
abbrev is_want : Status → Bool
is_want status = is_status status statuses.CAPACITY_EXCEEDED

-- ---- refusals

-- of checks none of which tells of a want and holds
clean-checks : (xs : List Check) (status : Status) → list_all (λ (x : Check). not (is_want x.status && x.holds)) xs ≡ true → first_that_holds xs ≡ Some status → is_want status ≡ false
clean-checks [] status clean e = absurd cc
clean-checks (x ∷ xs) status clean e = by x.holds refl (clean-checks xs status both.1) e where
  parts : (a b : Bool) → (a && b) ≡ true → (a ≡ true) × (b ≡ true)
  parts true b h = (refl, h)
  parts false b h = absurd (no (sym h))

  here : (w h : Bool) → h ≡ true → not (w && h) ≡ true → w ≡ false
  here true true e h = absurd (no (sym h))
  here true false e h = absurd (no (sym e))
  here false h e k = refl

  both : (not (is_want x.status && x.holds) ≡ true) × (list_all (λ (z : Check). not (is_want z.status && z.holds)) xs ≡ true)
  both = parts (not (is_want x.status && x.holds)) (list_all (λ (z : Check). not (is_want z.status && z.holds)) xs) clean

  by : (h : Bool) → x.holds ≡ h → (first_that_holds xs ≡ Some status → is_want status ≡ false) → (if h then Some x.status else first_that_holds xs) ≡ Some status → is_want status ≡ false
  by true is rest f = let same : x.status ≡ status = cc in ap is_want (sym same) ∙ here (is_want x.status) x.holds is both.0
  by false is rest f = rest f

-- those of a write, which fits where it lies in its namespace
write-checks : (a b past full : Bool) (status : Status) → (past ≡ false → full ≡ false)
    → first_that_holds (record { holds = a; status = statuses.INVALID_NAMESPACE } ∷ record { holds = b; status = statuses.INVALID_FIELD } ∷ record { holds = past; status = statuses.LBA_OUT_OF_RANGE } ∷ record { holds = full; status = statuses.CAPACITY_EXCEEDED } ∷ []) ≡ Some status → is_want status ≡ false
write-checks true b past full status fits e = let same : statuses.INVALID_NAMESPACE ≡ status = cc in ap is_want (sym same)
write-checks false true past full status fits e = let same : statuses.INVALID_FIELD ≡ status = cc in ap is_want (sym same)
write-checks false false true full status fits e = let same : statuses.LBA_OUT_OF_RANGE ≡ status = cc in ap is_want (sym same)
write-checks false false false true status fits e = absurd (no (fits refl))
write-checks false false false false status fits e = absurd cc

module _ (c : DriveConfig) (p : Point) (one : c.groups ≡ 1) (orderly : IsOrderlyState c p.state) (listed : IsListed c p.state) (whole : IsWhole p.state) where
  -- a write that does not reach past the end of its namespace fits
  fits-within : (nsid slba count : ℕ) (pid : Option ℕ) → is_past_end p.state nsid slba count ≡ false → has_no_room c p.state nsid slba count pid ≡ false
  fits-within nsid slba count pid within = never-over c p.state orderly _ nsid slba count (low _ _ within) one listed whole where
    low : (m n : ℕ) → nat_lt m n ≡ false → n ≤ m
    low m n e = grind (arith, nat_tests)

  refused-clean : (command : Command) (status : Status) → refusal_of c p command ≡ Some status → is_want status ≡ false
  unfolding refusal_of checks_of
  refused-clean (commands.Write w) status e = write-checks _ _ (is_past_end p.state w.nsid w.slba w.count) (has_no_room c p.state w.nsid w.slba w.count _) status (fits-within w.nsid w.slba w.count _) e
  refused-clean (commands.Read r) status e = clean-checks (checks_of c p (commands.Read r)) status refl e
  refused-clean (commands.Zero z) status e = clean-checks (checks_of c p (commands.Zero z)) status refl e
  refused-clean (commands.Dealloc d) status e = clean-checks (checks_of c p (commands.Dealloc d)) status refl e
  refused-clean (commands.Flush f) status e = clean-checks (checks_of c p (commands.Flush f)) status refl e
  refused-clean (commands.Delete d) status e = clean-checks (checks_of c p (commands.Delete d)) status refl e
  refused-clean (commands.Status s) status e = clean-checks (checks_of c p (commands.Status s)) status refl e
  refused-clean (commands.Update u) status e = clean-checks (checks_of c p (commands.Update u)) status refl e
  refused-clean (commands.Log l) status e = clean-checks (checks_of c p (commands.Log l)) status refl e
  refused-clean (commands.SetFdp set) status e = clean-checks (checks_of c p (commands.SetFdp set)) status refl e
  refused-clean (commands.GetFdp g) status e = clean-checks (checks_of c p (commands.GetFdp g)) status refl e
  refused-clean (commands.SetEvents set) status e = clean-checks (checks_of c p (commands.SetEvents set)) status refl e
  refused-clean (commands.Create create) status e = clean-checks (checks_of c p (commands.Create create)) status refl e
  refused-clean (commands.Other o) status e = clean-checks (checks_of c p (commands.Other o)) status refl e

  -- ---- replies

  abbrev IsClean : Reply → Type 0
  IsClean reply = is_want reply.status ≡ false

  as-refused : (command : Command) (reply : Reply) → IsRefused c p command reply → IsClean reply
  as-refused command reply h = ap (λ (r : Reply). is_want r.status) h.2 ∙ refused-clean command h.0 h.1

  as-fault : (reply : Reply) → IsWriteFault reply → IsClean reply
  as-fault reply = ⊎_elim
      (λ (unmade : reply ≡ bare statuses.WRITE_FAULT false). ap (λ (r : Reply). is_want r.status) unmade)
      (λ (made : reply ≡ bare statuses.WRITE_FAULT true). ap (λ (r : Reply). is_want r.status) made)

  -- a going write does not exceed its budget
  never-exceeds : (queue : ℕ) (g : Going) → p.state.going queue ≡ Some g → IsTrue (is_there p.state g) → exceeds_budget c p.state g ≡ false
  never-exceeds queue g going there = by (write_of g.command) refl where
    range : IsTrue (is_there p.state g) → IfSome (write_of g.command) (λ (w : Write). w.slba + w.count ≤ size_of p.state w.nsid)
    range = (orderly.writes queue g going).range

    by : (o : Option Write) → write_of g.command ≡ o → exceeds_budget c p.state g ≡ false
    by None e = ap (λ (o : Option Write). option_map_or (λ (w : Write). is_over_budget c p.state g.rg w.nsid w.slba w.count) o false) e
    by (Some w) e =
        ap (λ (o : Option Write). option_map_or (λ (w : Write). is_over_budget c p.state g.rg w.nsid w.slba w.count) o false) e
        ∙ never-over c p.state orderly g.rg w.nsid w.slba w.count (subst (λ (o : Option Write). IfSome o (λ (w : Write). w.slba + w.count ≤ size_of p.state w.nsid)) e (range there)) one listed whole

  ended-clean : (told : Bool) (queue : ℕ) (g : Going) (reply : Reply) (moment : ℕ) → p.state.going queue ≡ Some g → IsEnd told c p g reply moment → IsClean reply
  ended-clean told queue g reply moment going h = elim h [
    | inl gone ↦ ap (λ (r : Reply). is_want r.status) gone.1
    | inr rest ↦ elim rest [
      | inl over ↦ absurd (no (sym over.1 ∙ never-exceeds queue g going over.0))
      | inr more ↦ elim more [
        | inl well ↦ ap is_want well.1.status
        | inr last ↦ elim last [
          | inl fault ↦ as-fault reply fault.2
          | inr failed ↦ ap (λ (r : Reply). is_want r.status) failed.3
        ]
      ]
    ]
  ]

  written-clean : (told : Bool) (queue number : ℕ) (command : Command) (reply : Reply) (moment : ℕ) → IsWriteReply told c p queue number command reply moment → IsClean reply
  written-clean told queue number command reply moment h = elim h [
    | inl ends ↦ ended-clean told queue ends.0 reply moment ends.1.going ends.2
    | inr refused ↦ as-refused command reply refused.1
  ]

  plain-clean : (told : Bool) (command : Command) (reply : Reply) (moment : ℕ) → IsPlainReply told c p command reply moment → IsClean reply
  plain-clean told command reply moment h = elim h [
    | inl refused ↦ as-refused command reply refused
    | inr rest ↦ elim rest [
      | inl well ↦ ap is_want well.1.status
      | inr media ↦ elim media.2 [
        | inl read ↦ ap (λ (r : Reply). is_want r.status) read.1
        | inr fault ↦ as-fault reply fault.1
      ]
    ]
  ]

  -- an entry that may follow tells of no want
  pub step-clean : (told : Bool) (e : Entry) → Follows told c p e → exceeds_capacity e ≡ false
  unfolding Follows
  step-clean told e follows =
      let P : Entry → Type 0 = λ x. Follows told c p x → exceeds_capacity x ≡ false in
      by-host P host (λ x none follows. ap (λ (o : Option Host). option_map_or (λ (h : Host). is_want h.reply.status) o false) none) e follows where
        replied : (h : Host) (b : Bool) → MatchBool b (IsWriteReply told c p h.queue h.number h.command h.reply h.moment) (IsPlainReply told c p h.command h.reply h.moment) → is_want h.reply.status ≡ false
        replied h true r = written-clean told h.queue h.number h.command h.reply h.moment r
        replied h false r = plain-clean told h.command h.reply h.moment r

        host : (h : Host) → Follows told c p (entries.Host h) → exceeds_capacity (entries.Host h) ≡ false
        host h follows = replied h (is_write h.command) follows.replied

-- ---- nothing is lost

effect-lost : (c : DriveConfig) (s : PlainState) (queue : ℕ) (command : Command) → ((effect_of c s queue command).is_lost ≡ s.is_lost) × ((effect_of c s queue command).is_worn ≡ s.is_worn)
unfolding effect_of
effect-lost c s queue command =
    by-effect (λ x. ((effect_of c s queue x).is_lost ≡ s.is_lost) × ((effect_of c s queue x).is_worn ≡ s.is_worn))
    (record {
      write = λ w. (refl, refl);
      zero = λ z. (refl, refl);
      dealloc = λ d. (refl, refl);
      delete = λ d. (refl, refl);
      update = λ u. (refl, refl);
      set_fdp = λ set. (refl, refl);
      set_events = λ set. (refl, refl);
      create = λ create. (refl, refl);
      nothing = λ x none. (ap (λ (t : PlainState). t.is_lost) (none.state c s queue), ap (λ (t : PlainState). t.is_worn) (none.state c s queue));
    }) command

whole-as : (s t : PlainState) → t.is_lost ≡ s.is_lost → t.is_worn ≡ s.is_worn → IsWhole s → IsWhole t
whole-as s t lost worn h = record { lost = λ unit. ap (λ (f : ℕ → Bool). f unit) lost ∙ h.lost unit; worn = λ rg. ap (λ (f : ℕ → Bool). f rg) worn ∙ h.worn rg }

-- an entry that tells of no loss leaves nothing lost
whole-next : (c : DriveConfig) (s : PlainState) (e : Entry) → tells_loss e ≡ false → IsWhole s → IsWhole (after c s e)
unfolding after changed_by
whole-next c s (entries.Host h) none was = by h.reply.applied where
  by : (b : Bool) → IsWhole (record (if b then effect_of c s h.queue h.command else s) {
    going = if is_write h.command then with_at s.going h.queue None else s.going;
    media = if is_media_error h.reply.status then h.moment ∷ s.media else s.media;
    position = s.position + 1;
  })
  by true = let effect = effect-lost c s h.queue h.command in whole-as s _ effect.0 effect.1 was
  by false = record { lost = was.lost; worn = was.worn }
whole-next c s (entries.Started e) none was = record { lost = was.lost; worn = was.worn }
whole-next c s (entries.Placed p) none was = record { lost = was.lost; worn = was.worn }
whole-next c s (entries.Copied copied) none was = record { lost = was.lost; worn = was.worn }
whole-next c s (entries.Moved m) none was = record { lost = was.lost; worn = was.worn }
whole-next c s (entries.Erased e) none was = record { lost = was.lost; worn = λ rg. by (rg == e.unit / c.units) rg } where
  by : (b : Bool) (rg : ℕ) → (if b then false else s.is_worn rg) ≡ false
  by true rg = refl
  by false rg = was.worn rg
whole-next c s (entries.Retired r) none was = absurd (no none)
whole-next c s (entries.Aside a) none was = absurd (no none)
whole-next c s (entries.Shut shut) none was = record { lost = was.lost; worn = was.worn }
whole-next c s (entries.Worn w) none was = absurd (no none)
whole-next c s entries.Reopened none was = record { lost = λ unit. refl; worn = λ rg. refl }

whole-first : (c : DriveConfig) (f : Found) → IsWhole (point_of c f []).state
unfolding point_of state_of first_state
whole-first c f = record { lost = λ unit. refl; worn = λ rg. refl }

first-listed : (c : DriveConfig) (f : Found) → IsListed c (first_state c f) → IsListed c (point_of c f []).state
unfolding point_of state_of
first-listed c f h = h

next-state : (c : DriveConfig) (p : Point) (e : Entry) → (next c p e).state ≡ after c p.state e
unfolding next
next-state c p e = refl

-- ---- histories

or-parts : (a b : Bool) → (a || b) ≡ false → (a ≡ false) × (b ≡ false)
or-parts true b h = absurd (no h)
or-parts false b h = (refl, h)

or-both : (a b : Bool) → a ≡ false → b ≡ false → (a || b) ≡ false
or-both true b e f = absurd (no e)
or-both false b e f = f

module _ (told : Bool) (c : DriveConfig) (f : Found) (valid : IsValidConfig c) (one : c.groups ≡ 1) where
  pub clean-after : (before es : List Entry) → IsOrderly c (point_of c f before) → IsListed c (point_of c f before).state → IsWhole (point_of c f before).state → IsLegalAfter told c f before es → list_any tells_loss es ≡ false → list_any exceeds_capacity es ≡ false
  unfolding IsLegalAfter
  clean-after before [] orderly listed whole legal none = refl
  clean-after before (e ∷ es) orderly listed whole legal none =
      let p : Point = point_of c f before in
      let parts = or-parts (tells_loss e) (list_any tells_loss es) none in
      let push : point_of c f (before ++ e ∷ []) ≡ next c p e = point_of-push c f before e in
      let after_is : (point_of c f (before ++ e ∷ [])).state ≡ after c p.state e = ap (λ (q : Point). q.state) push ∙ next-state c p e in
      or-both (exceeds_capacity e) (list_any exceeds_capacity es)
      (step-clean c p one orderly.state listed whole told e legal.0)
      (clean-after (before ++ e ∷ []) es
      (subst (IsOrderly c) (sym push) (orderly-next told c p e valid orderly legal.0))
      (subst (IsListed c) (sym after_is) (listed-next told c p e orderly.state listed legal.0))
      (subst IsWhole (sym after_is) (whole-next c p.state e parts.0 whole))
      legal.1 parts.1)

  pub history-clean : (es : List Entry) → IsOrderly c (point_of c f []) → IsListed c (first_state c f) → IsLegal told c f es → list_any tells_loss es ≡ false → list_any exceeds_capacity es ≡ false
  history-clean es orderly listed = clean-after [] es orderly (first-listed c f listed) (whole-first c f)

  -- nothing is lost behind the entry of an opening
  whole-opened : IsWhole (point_of c f (entries.Reopened ∷ [])).state
  whole-opened =
      subst IsWhole (sym (ap (λ (q : Point). q.state) (point_of-push c f [] entries.Reopened) ∙ next-state c (point_of c f []) entries.Reopened))
      (whole-next c (point_of c f []).state entries.Reopened refl (whole-first c f))

  -- so it is where what stands is known behind the opening of a run
  pub begun-clean : (first es : List Entry) → (first ≡ []) ⊎ (first ≡ entries.Reopened ∷ []) → IsOrderly c (point_of c f first) → IsListed c (point_of c f first).state → IsLegal told c f (first ++ es) → list_any tells_loss (first ++ es) ≡ false → list_any exceeds_capacity (first ++ es) ≡ false
  unfolding IsLegalAfter
  begun-clean first es = ⊎_elim
      (λ (none : first ≡ []). subst Clean (sym none) (λ orderly listed legal loss. clean-after [] es orderly listed (whole-first c f) legal loss))
      (λ (one : first ≡ entries.Reopened ∷ []). subst Clean (sym one) (λ orderly listed legal loss. clean-after (entries.Reopened ∷ []) es orderly listed whole-opened legal.1 loss)) where
        Clean : List Entry → Type 0
        Clean xs = IsOrderly c (point_of c f xs) → IsListed c (point_of c f xs).state → IsLegal told c f (xs ++ es) → list_any tells_loss (xs ++ es) ≡ false → list_any exceeds_capacity (xs ++ es) ≡ false
