-- The copies of a pass after a copy more.
use Rattle.std.proofs.Common.{◌≡◌, ◌≢◌, ℕ, ◌<◌, ◌≤◌, Bool, true, false, cond, List, [], ◌∷◌, ◌++◌, Option, Some, None, refl, sym, ◌∙◌, ap, subst, map, length, append_assoc, arith, eq-eqb, ⊎_elim}
use Rattle.std.specs.Prelude.{All, IfSome, is_some}
use Rattle.std.specs.Option.{option_map_or}
use Rattle.std.proofs.lemmas.Bool.{cases_lt, cond-false, cond-true}
use Rattle.std.proofs.lemmas.List.{map-append}
use Rattle.std.proofs.lemmas.List.Elements.{All-map, All-nil, All-push, All-weaker}
use Rattle.fdp_base.specs.declared.config.DriveConfig.{DriveConfig}
use Rattle.fdp_base.specs.declared.entry.Copied.{Copied}
use Rattle.fdp_base.specs.declared.entry.Entry.TheVariants as entries
use Rattle.fdp_base.specs.declared.entry.Spot.{Spot}
use Rattle.fdp_base.specs.Numbers.{with_at}
use Rattle.fdp_rules.specs.Next.{next}
use Rattle.fdp_rules.specs.Point.{Copy, Point, Trail}
use Rattle.fdp_rules.specs.Sites.{ascends, group_of, last_run, traced_by}
use Rattle.fdp_rules.specs.Step.{Follows}
use Rattle.fdp_pointers.specs.Facts.{Page}
use Rattle.fdp_pointers.specs.Pointers.{Behind}
use Rattle.fdp_owners.specs.Owned.{AreOwners}
use Rattle.fdp_owners.specs.OwnerTable.{OwnerTable, owner_at}
use Rattle.fdp_passes.specs.Due.{HasCopied, IsFirstLive, copies_in, next_in}
use Rattle.fdp_passes.specs.GroupPasses.{GroupPasses, Pass}
use Rattle.fdp_trails.specs.Followed.{FollowsPass, HasNoEarlier, IsCopyOf, IsDead, IsFollowed, IsNextCopy, IsPassOf, copy_of}
use Rattle.fdp_trails.proofs.Runs.{IsBefore, all-before, ascends-on, run-ascends, run-more}

-- ---- the trail

own-copies : (copies : ℕ → List Copy) (g rg : ℕ) (k : Copy) → g ≡ rg → with_at copies g (copies g ++ k ∷ []) rg ≡ copies rg ++ k ∷ []
own-copies copies g rg k e = ap (λ (b : Bool). cond b (copies g ++ k ∷ []) (copies rg)) (eq-eqb rg g (sym e)) ∙ ap (λ (n : ℕ). copies n ++ k ∷ []) e

-- copies that end a run with one more, behind others that are dead
record Ends (at : Behind Page) (run : List Copy) (copies : List Copied) : Type 0 where
  stale : List Copy
  listed : run ≡ stale ++ map copy_of copies
  dead : All (IsDead at) stale

-- the old page of a copy that goes before one before which no pointer leads
dead-before : (at : Behind Page) (copy : Copied) (x : Copy) → HasNoEarlier at copy.from → IsBefore x (copy_of copy) → IsDead at x
dead-before at copy x early before p y e same =
    let unit : y.spot.unit ≡ copy.from.unit = ap (λ (s : Spot). s.unit) same ∙ before.unit in
    let page : y.spot.page ≡ x.from.page = ap (λ (s : Spot). s.page) same in
    let low : copy.from.page ≤ y.spot.page = early p y e unit in
    let below : x.from.page < copy.from.page = before.page in
    omega (arith, low, page, below)

-- the first copy of a pass: what the trail had before it joins the run, and is dead, or it begins a run
ends-first : (at : Behind Page) (xs : List Copy) (copy : Copied) → HasNoEarlier at copy.from → Ends at (last_run (xs ++ copy_of copy ∷ [])) (copy ∷ [])
ends-first at xs copy early =
    (elim (ascends (last_run xs ++ copy_of copy ∷ [])) as (λ b. ascends (last_run xs ++ copy_of copy ∷ []) ≡ b → Ends at (last_run (xs ++ copy_of copy ∷ [])) (copy ∷ [])) [
      | true ↦ λ e. record {
        stale = last_run xs;
        listed = run-more xs (copy_of copy) ∙ cond-true (ascends (last_run xs ++ copy_of copy ∷ [])) (last_run xs ++ copy_of copy ∷ []) (copy_of copy ∷ []) e;
        dead = All-weaker (λ (x : Copy). IsBefore x (copy_of copy)) (IsDead at) (λ x before. dead-before at copy x early before) (last_run xs) (all-before (last_run xs) (copy_of copy) e);
      }
      | false ↦ λ e. record {
        stale = [];
        listed = run-more xs (copy_of copy) ∙ cond-false (ascends (last_run xs ++ copy_of copy ∷ [])) (last_run xs ++ copy_of copy ∷ []) (copy_of copy ∷ []) e;
        dead = All-nil (IsDead at);
      }
    ]) refl

-- a copy more of a pass that has some
ends-more : (at : Behind Page) (t : Trail) (rg : ℕ) (z : Copied) (zs : List Copied) (copy : Copied) → FollowsPass at t rg (z ∷ zs) → All (λ (x : Copied). IsBefore (copy_of x) (copy_of copy)) (z ∷ zs) → Ends at (last_run (t.copies rg ++ copy_of copy ∷ [])) ((z ∷ zs) ++ copy ∷ [])
ends-more at t rg z zs copy h before =
    let run : ascends (h.stale ++ map copy_of (z ∷ zs)) ≡ true = subst (λ (l : List Copy). ascends l ≡ true) h.listed (run-ascends (t.copies rg)) in
    let on : ascends ((h.stale ++ map copy_of (z ∷ zs)) ++ copy_of copy ∷ []) ≡ true = ascends-on h.stale (copy_of z) (map copy_of zs) (copy_of copy) run (All-map (λ (x : Copy). IsBefore x (copy_of copy)) copy_of (z ∷ zs) before) in
    let goes : ascends (last_run (t.copies rg) ++ copy_of copy ∷ []) ≡ true = subst (λ (l : List Copy). ascends (l ++ copy_of copy ∷ []) ≡ true) (sym h.listed) on in
    record {
      stale = h.stale;
      listed = run-more (t.copies rg) (copy_of copy)
          ∙ cond-true (ascends (last_run (t.copies rg) ++ copy_of copy ∷ [])) (last_run (t.copies rg) ++ copy_of copy ∷ []) (copy_of copy ∷ []) goes
          ∙ ap (λ (l : List Copy). l ++ copy_of copy ∷ []) h.listed
          ∙ append_assoc h.stale (map copy_of (z ∷ zs)) (copy_of copy ∷ [])
          ∙ ap (λ (l : List Copy). h.stale ++ l) (sym (map-append copy_of (z ∷ zs) (copy ∷ [])));
      dead = h.dead;
    }

-- ---- the pass

-- the copies of the pass under way, if there is one
abbrev copies_of : Option Pass → List Copied
copies_of o = option_map_or (λ (pass : Pass). pass.copies) o []

-- each of them goes before the copy that is next
before-next : (at : Behind Page) (t : Trail) (rg : ℕ) (o : Option Pass) (copy : Copied) → IfSome o (λ (x : Pass). x.victim ≡ copy.from.unit) → option_map_or (λ (x : Pass). x.next) o 0 ≤ copy.from.page → IfSome o (IsFollowed at t rg)
    → All (λ (x : Copied). IsBefore (copy_of x) (copy_of copy) × (x.to.unit ≢ copy.from.unit)) (copies_of o)
before-next at t rg None copy same behind h = All-nil (λ (x : Copied). IsBefore (copy_of x) (copy_of copy) × (x.to.unit ≢ copy.from.unit))
before-next at t rg (Some pass) copy same behind h =
    All-weaker (IsCopyOf pass) (λ (x : Copied). IsBefore (copy_of x) (copy_of copy) × (x.to.unit ≢ copy.from.unit))
    (λ x is. let page : x.from.page < copy.from.page = omega (arith, is.passed, behind) in (record { unit = is.old_unit ∙ same; page = page }, λ e. is.new_unit (e ∙ sym same)))
    pass.copies
    h.copies

ends-next : (at : Behind Page) (t : Trail) (rg : ℕ) (o : Option Pass) (copy : Copied) → IfSome o (IsFollowed at t rg) → (copies_of o ≡ [] → HasNoEarlier at copy.from) → All (λ (x : Copied). IsBefore (copy_of x) (copy_of copy)) (copies_of o) → Ends at (last_run (t.copies rg ++ copy_of copy ∷ [])) (copies_of o ++ copy ∷ [])
ends-next at t rg None copy h early before = ends-first at (t.copies rg) copy (early refl)
ends-next at t rg (Some pass) copy h early before = cases pass.copies h.follows early before where
  cases : (copies : List Copied) → ((copies ≡ [] → ⊥) → FollowsPass at t rg copies) → (copies ≡ [] → HasNoEarlier at copy.from) → All (λ (x : Copied). IsBefore (copy_of x) (copy_of copy)) copies → Ends at (last_run (t.copies rg ++ copy_of copy ∷ [])) (copies ++ copy ∷ [])
  cases [] follows early before = ends-first at (t.copies rg) copy (early refl)
  cases (z ∷ zs) follows early before = ends-more at t rg z zs copy (follows (λ e. cc)) before

followed-next : (at : Behind Page) (t u : Trail) (rg : ℕ) (passes now : GroupPasses) (copy : Copied) → u.copies rg ≡ t.copies rg ++ copy_of copy ∷ [] → copy.from.unit ≢ copy.to.unit → IsPassOf at t rg passes → (adds : IsNextCopy passes now copy) → (copies_in passes ≡ [] → HasNoEarlier at copy.from) → IsFollowed at u rg adds.pass
followed-next at t u rg passes now copy more apart h adds early =
    let before = before-next at t rg passes.pass copy adds.same adds.behind h in
    let ends = ends-next at t rg passes.pass copy h early (All-weaker (λ (x : Copied). IsBefore (copy_of x) (copy_of copy) × (x.to.unit ≢ copy.from.unit)) (λ (x : Copied). IsBefore (copy_of x) (copy_of copy)) (λ x both. both.0) (copies_in passes) before) in
    record {
      copies = subst (All (IsCopyOf adds.pass)) (sym adds.copies)
          (All-push (IsCopyOf adds.pass) (copies_in passes) copy
          (All-weaker (λ (x : Copied). IsBefore (copy_of x) (copy_of copy) × (x.to.unit ≢ copy.from.unit)) (IsCopyOf adds.pass)
          (λ x both. let page : x.from.page < copy.from.page = both.0.page in record { old_unit = both.0.unit ∙ sym adds.victim; passed = omega (arith, page, adds.next); new_unit = λ e. both.1 (e ∙ adds.victim) })
          (copies_in passes)
          before)
          (record { old_unit = sym adds.victim; passed = omega (arith, adds.next); new_unit = λ e. apart (sym (e ∙ adds.victim)) }));
      follows = λ some. record {
        stale = ends.stale;
        listed = ap last_run more ∙ ends.listed ∙ ap (λ (l : List Copied). ends.stale ++ map copy_of l) (sym adds.copies);
        dead = ends.dead;
      };
    }

pub pass-copied : (told : Bool) (c : DriveConfig) (p : Point) (rg : ℕ) (copy : Copied) (at : Behind Page) (passes now : GroupPasses) → group_of c copy.from.unit ≡ rg → Follows told c p (entries.Copied copy) → IsPassOf at p.trail rg passes → IsNextCopy passes now copy → (copies_in passes ≡ [] → HasNoEarlier at copy.from)
    → IsPassOf at (next c p (entries.Copied copy)).trail rg now
unfolding next traced_by Follows
pass-copied told c p rg copy at passes now group step h adds early =
    subst (λ (o : Option Pass). IfSome o (IsFollowed at (traced_by c p.trail (entries.Copied copy)) rg)) (sym adds.under_way)
    (followed-next at p.trail (traced_by c p.trail (entries.Copied copy)) rg passes now copy (own-copies p.trail.copies (group_of c copy.from.unit) rg (copy_of copy) group) step.apart h adds early)

-- ---- the first copy of a pass

pub first-early : (o : OwnerTable) (at : Behind Page) (passes : GroupPasses) (spot : Spot) → AreOwners (owner_at o) at → HasCopied passes o → IfSome passes.pass (λ (pass : Pass). pass.victim ≡ spot.unit) → IsFirstLive o (next_in passes) spot → copies_in passes ≡ [] → HasNoEarlier at spot
first-early o at passes spot owners copied same first none p y e unit =
    let owned = owners.owned p y e in
    let place : y.spot ≡ record { unit = spot.unit; page = y.spot.page } = λ i. record { unit = unit i; page = y.spot.page } in
    let live : owner_at o (record { unit = spot.unit; page = y.spot.page }) ≡ Some owned.owner = ap (owner_at o) (sym place) ∙ owned.is_owner in
    ⊎_elim
    (λ (early : y.spot.page < spot.page). ⊎_elim
    (λ (passed : y.spot.page < next_in passes). absurd (was-passed passes.pass refl same none passed (ap is_some live)))
    (λ (ahead : next_in passes ≤ y.spot.page). let no_owner : owner_at o (record { unit = spot.unit; page = y.spot.page }) ≡ None = first.none y.spot.page ahead early in absurd cc)
    (cases_lt y.spot.page (next_in passes)))
    (λ (late : spot.page ≤ y.spot.page). late)
    (cases_lt y.spot.page spot.page) where
      was-passed : (q : Option Pass) → passes.pass ≡ q → IfSome q (λ (pass : Pass). pass.victim ≡ spot.unit) → copies_of q ≡ [] → y.spot.page < option_map_or (λ (pass : Pass). pass.next) q 0 → is_some (owner_at o (record { unit = spot.unit; page = y.spot.page })) ≡ true → ⊥
      was-passed None is same none passed live = omega (arith, passed)
      was-passed (Some pass) is same none passed live =
          let old = copied pass y.spot.page is passed (ap (λ (u : ℕ). is_some (owner_at o (record { unit = u; page = y.spot.page }))) same ∙ live) in
          let size : length pass.copies ≡ 0 = ap length none in
          omega (arith, size, old.1.1)
