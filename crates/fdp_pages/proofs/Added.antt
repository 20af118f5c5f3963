-- The targets and the copies of a group after a page of a target was used.
use Rattle.std.proofs.Common.{◌≡◌, ◌≢◌, ℕ, ◌+◌, ◌<◌, ◌≤◌, Bool, true, false, List, [], ◌∷◌, ◌++◌, Some, None, refl, ap, sym, ◌∙◌, subst, arith, append_assoc, ⊎_elim, inr, length, get_or-set_other}
use Rattle.std.specs.Prelude.{◌⊎◌, Contains, IsTrue, nat_le, option_map, slice_get, slice_index_or, if◌then◌else◌}
use Rattle.std.proofs.lemmas.Bool.{cases_eq}
use Rattle.std.proofs.lemmas.List.Elements.{Contains-append_right, Contains-push_cases}
use Rattle.std.proofs.lemmas.Option.{slice_get_within}
use Rattle.fdp_base.specs.declared.config.Class.{Class}
use Rattle.fdp_base.specs.declared.entry.Copied.{Copied}
use Rattle.fdp_base.specs.declared.entry.Spot.{Spot}
use Rattle.fdp_collector.specs.Ready.{AreTargets, HaveLanes, IsUnitOf, Relocation, lane_at}
use Rattle.fdp_collector.proofs.Kept.{changed-here, changed-other, group-kept, unit-kept, unit-of-kept}
use Rattle.fdp_collector.proofs.Using.{IsFilled, IsUsable, StaysTarget, used-how, uses-pass}
use Rattle.fdp_flash.proofs.Lists.{append_cases}
use Rattle.fdp_owners.specs.declared.owner.Owner.{Owner}
use Rattle.fdp_owners.specs.OwnerTable.{OwnerTable, owner_at}
use Rattle.fdp_pages.specs.Joined.{AreCopied, AreTargeted, Awaits, FillTargets, IsCopyOf, LieInOrder}
use Rattle.fdp_pages.proofs.Groups.{is_filled, pages-of}
use Rattle.fdp_pages.proofs.InOrder.{in-order-push, in-order-unit}
use Rattle.fdp_pages.proofs.Inside.{slot-one}
use Rattle.fdp_pages.proofs.Places.{never, one, place-contains}
use Rattle.fdp_pages.proofs.Worked.{AreWorked}
use Rattle.fdp_passes.specs.declared.lane.Lane.{Lane}
use Rattle.fdp_passes.specs.GroupPasses.{GroupPasses, Pass, slot_of, target_at, with_copy}
use Rattle.fdp_passes.specs.Targets.{UsesPage, goes_on, with_target}
use Rattle.fdp_passes.specs.Room.{room_in, wanted_in}
use Rattle.fdp_passes.proofs.Opened.{none-set}
use Rattle.fdp_units.specs.declared.data_unit.DataUnit.{DataUnit}
use Rattle.fdp_units.specs.declared.state.UnitState.TheVariants.{Target, Closed}
use Rattle.fdp_units.specs.UnitTable.{IsUnit, UnitTable, group_in, state_at, unit_at}

module _ (s : Relocation) (passes : GroupPasses) (new : UnitTable) (o : OwnerTable) (classes : List Class) (rg : ℕ) (lane : Lane) (unit : ℕ) (targets : AreTargets s.passes s.units rg) (usable : IsUsable s lane unit) (uses : UsesPage s.passes passes s.units new lane unit) (was : AreWorked s o classes rg) where
  abbrev now : Relocation
  now = record { passes = passes; units = new }

  next-here : (unit_at new unit).next ≡ (unit_at s.units unit).next + 1
  next-here = ap (λ (x : DataUnit). x.next) (changed-here s.units new unit _ uses.page)

  same-there : (u : ℕ) → u ≢ unit → unit_at new u ≡ unit_at s.units u
  same-there u ne = changed-other s.units new unit u _ uses.page ne

  pages : new.unit_pages ≡ s.units.unit_pages
  pages = pages-of s.units new uses.page.cut

  -- a target stays, but for one that is full
  pub target-was : (other : Lane) (u : ℕ) → target_at passes other ≡ Some u → target_at s.passes other ≡ Some u
  target-was other u e = ⊎_elim
      (λ (h : StaysTarget s passes new unit). ap (λ (p : GroupPasses). target_at p other) (sym h.passes_are) ∙ e)
      (λ (h : IsFilled s passes new lane unit).
      let now_is : target_at (with_target lane None s.passes) other ≡ Some u = ap (λ (p : GroupPasses). target_at p other) (sym h.passes_are) ∙ e in
      ⊎_elim
      (λ (same : slot_of other ≡ slot_of lane). absurd (never u (sym (none-set s.passes.targets (slot_of lane)) ∙ ap (λ (k : ℕ). slice_index_or (with_target lane None s.passes).targets k None) (sym same) ∙ now_is)))
      (λ (ne : slot_of other ≢ slot_of lane). sym (get_or-set_other s.passes.targets (slot_of lane) (slot_of other) None None ne) ∙ now_is)
      (cases_eq (slot_of other) (slot_of lane)))
      (used-how s passes new lane unit usable uses)

  target-now : (other : Lane) (u : ℕ) → u ≢ unit → target_at s.passes other ≡ Some u → target_at passes other ≡ Some u
  target-now other u ne e = ⊎_elim
      (λ (h : StaysTarget s passes new unit). ap (λ (p : GroupPasses). target_at p other) h.passes_are ∙ e)
      (λ (h : IsFilled s passes new lane unit).
      let apart : slot_of other ≢ slot_of lane = λ same. ne (one (sym e ∙ ap (λ (k : ℕ). slice_index_or s.passes.targets k None) same ∙ usable.target)) in
      ap (λ (p : GroupPasses). target_at p other) h.passes_are ∙ get_or-set_other s.passes.targets (slot_of lane) (slot_of other) None None apart ∙ e)
      (used-how s passes new lane unit usable uses)

  state-here : IsTrue (is_filled (state_at new unit))
  state-here = ⊎_elim
      (λ (h : StaysTarget s passes new unit). ap is_filled h.state)
      (λ (h : IsFilled s passes new lane unit). ap is_filled h.state)
      (used-how s passes new lane unit usable uses)

  used-targeted : AreTargeted now o classes rg
  used-targeted = record {
    targeted = λ u is. ⊎_elim
        (λ (same : u ≡ unit). ⊎_elim
        (λ (h : StaysTarget s passes new unit). (lane, ap (λ (p : GroupPasses). target_at p lane) h.passes_are ∙ usable.target ∙ ap (λ (k : ℕ). Some k) (sym same)))
        (λ (h : IsFilled s passes new lane unit). absurd (apart (sym h.state ∙ ap (state_at new) (sym same) ∙ is.stands)))
        (used-how s passes new lane unit usable uses))
        (λ (ne : u ≢ unit).
        let old = was.targeted.targeted u (unit-of-kept new s.units rg u Target (sym uses.page.cut) is (ap (λ (x : DataUnit). x.state) (sym (same-there u ne)))) in
        (old.0, target-now old.0 u ne old.1))
        (cases_eq u unit);
    lanes = λ u other e. was.targeted.lanes u other (target-was other u e);
    own = λ u other spot x e. was.targeted.own u other spot x (target-was other u e);
  } where
    apart : Closed ≡ Target → ⊥
    apart e = cc

  -- what was copied lies where it lay
  lies-still : (pass : Pass) (copy : Copied) → IsCopyOf s.units rg pass copy → IsCopyOf new rg pass copy
  lies-still pass copy lie =
      let used : copy.to.page < (unit_at s.units copy.to.unit).next = lie.used in
      let within : (unit_at s.units copy.to.unit).next ≤ s.units.unit_pages = lie.within in
      let low : (unit_at s.units unit).next < s.units.unit_pages = usable.within in
      ⊎_elim
      (λ (same : copy.to.unit ≡ unit).
      let next : (unit_at new copy.to.unit).next ≡ (unit_at s.units copy.to.unit).next + 1 = subst (λ (u : ℕ). (unit_at new u).next ≡ (unit_at s.units u).next + 1) (sym same) next-here in
      let room : (unit_at s.units copy.to.unit).next < s.units.unit_pages = subst (λ (u : ℕ). (unit_at s.units u).next < s.units.unit_pages) (sym same) low in
      record {
        victim = lie.victim;
        behind = lie.behind;
        from_page = omega (arith, pages, lie.from_page);
        is_unit = unit-kept s.units new copy.to.unit uses.page.cut lie.is_unit;
        group = group-kept s.units new copy.to.unit rg uses.page.cut lie.group;
        stands = subst (λ (u : ℕ). IsTrue (is_filled (state_at new u))) (sym same) state-here;
        apart = lie.apart;
        used = omega (arith, used, next);
        within = omega (arith, room, next, pages);
      })
      (λ (ne : copy.to.unit ≢ unit).
      let next : (unit_at new copy.to.unit).next ≡ (unit_at s.units copy.to.unit).next = ap (λ (x : DataUnit). x.next) (same-there copy.to.unit ne) in
      record {
        victim = lie.victim;
        behind = lie.behind;
        from_page = omega (arith, pages, lie.from_page);
        is_unit = unit-kept s.units new copy.to.unit uses.page.cut lie.is_unit;
        group = group-kept s.units new copy.to.unit rg uses.page.cut lie.group;
        stands = ap (λ (x : DataUnit). is_filled x.state) (same-there copy.to.unit ne) ∙ lie.stands;
        apart = lie.apart;
        used = omega (arith, used, next);
        within = omega (arith, within, next, pages);
      })
      (cases_eq copy.to.unit unit)

  awaits-still : (copy : Copied) (x : Owner) → Awaits s o classes copy x → Awaits now o classes copy x
  awaits-still copy x a = record { unowned = a.unowned; way = a.way; target = λ other e. a.target other (target-was other copy.to.unit e) }

  used-copied : (pass : Pass) → AreCopied s o classes rg pass → AreCopied now o classes rg pass
  used-copied pass h = record {
    lie = λ copy is. lies-still pass copy (h.lie copy is);
    ascend = h.ascend;
    differ = h.differ;
    filled = let f = h.filled in record {
      first = f.first;
      last = f.last;
      first_unit = f.first_unit;
      last_unit = f.last_unit;
      split = f.split;
      first_lie = f.first_lie;
      last_lie = f.last_lie;
      one = f.one;
      goes_on = λ page u x owned e. f.goes_on page u x owned (target-was (lane_at classes x) u e);
    };
    await = λ copy x is owned. awaits-still copy x (h.await copy x is owned);
  }

  pub used-worked : AreWorked now o classes rg
  used-worked = record {
    targeted = used-targeted;
    copied = λ pass e. used-copied pass (was.copied pass (sym (uses-pass s passes new lane unit usable uses).0 ∙ e));
  }

  -- ---- one copy more

  -- the copy of a live page of the victim to the page that was used
  module _ (pass : Pass) (under : s.passes.pass ≡ Some pass) (copy : Copied) (x : Owner) (victim : pass.victim ≡ copy.from.unit) (order : pass.next ≤ copy.from.page) (low : copy.from.page < s.units.unit_pages) (closed : state_at s.units pass.victim ≡ Closed) (own : IsUnitOf s.units rg unit Target) (to_unit : copy.to.unit ≡ unit) (to_page : copy.to.page ≡ (unit_at s.units unit).next) (free : owner_at o copy.to ≡ None) (owned : owner_at o copy.from ≡ Some x) (way : lane_at classes x ≡ lane) (have : HaveLanes classes o) where
    copies : AreCopied s o classes rg pass
    copies = was.copied pass under

    new-lies : IsCopyOf new rg (with_copy copy pass) copy
    new-lies =
        let room : (unit_at s.units unit).next < s.units.unit_pages = usable.within in
        let next : (unit_at new copy.to.unit).next ≡ (unit_at s.units unit).next + 1 = ap (λ (u : ℕ). (unit_at new u).next) to_unit ∙ next-here in
        record {
          victim = sym victim;
          behind = omega arith;
          from_page = omega (arith, low, pages);
          is_unit = subst (λ (u : ℕ). IsUnit new u) (sym to_unit) (unit-kept s.units new unit uses.page.cut own.is_unit);
          group = ap (group_in new) to_unit ∙ group-kept s.units new unit rg uses.page.cut own.group;
          stands = subst (λ (u : ℕ). IsTrue (is_filled (state_at new u))) (sym to_unit) state-here;
          apart = λ same. apart (sym closed ∙ ap (state_at s.units) (sym same ∙ to_unit) ∙ own.stands);
          used = omega (arith, next, to_page);
          within = omega (arith, next, room, pages);
        } where
          apart : Closed ≡ Target → ⊥
          apart e = cc

    old-lies : (c : Copied) → IsCopyOf s.units rg pass c → IsCopyOf new rg (with_copy copy pass) c
    old-lies c lie =
        let still = lies-still pass c lie in
        let behind : c.from.page < pass.next = lie.behind in
        record {
          victim = still.victim;
          behind = omega (arith, behind, order);
          from_page = still.from_page;
          is_unit = still.is_unit;
          group = still.group;
          stands = still.stands;
          apart = still.apart;
          used = still.used;
          within = still.within;
        }

    -- an element of the longer list
    element : (i : ℕ) (a : Copied) → slice_get (pass.copies ++ copy ∷ []) i ≡ Some a → (slice_get pass.copies i ≡ Some a) ⊎ ((i ≡ length pass.copies) × (copy ≡ a))
    element i a e = append_cases pass.copies copy a i e

    -- a new page of before is another one
    page-apart : (i : ℕ) (a : Copied) → slice_get pass.copies i ≡ Some a → a.to ≢ copy.to
    page-apart i a e same =
        let lie = copies.lie a (place-contains pass.copies i a e) in
        let unit_is : a.to.unit ≡ unit = ap (λ (p : Spot). p.unit) same ∙ to_unit in
        let used : a.to.page < (unit_at s.units a.to.unit).next = lie.used in
        let next : (unit_at s.units a.to.unit).next ≡ (unit_at s.units unit).next = ap (λ (u : ℕ). (unit_at s.units u).next) unit_is in
        let page : a.to.page ≡ copy.to.page = ap (λ (p : Spot). p.page) same in
        absurd (omega (arith, used, next, page, to_page))

    new-awaits : (y : Owner) → owner_at o copy.from ≡ Some y → Awaits now o classes copy y
    new-awaits y e =
        let same : x ≡ y = one (sym owned ∙ e) in
        record {
          unowned = free;
          way = λ spot z unit_is is. was.targeted.own unit lane spot z usable.target (unit_is ∙ to_unit) is ∙ sym way ∙ ap (lane_at classes) same;
          target = λ other e. slot-one other lane (targets.apart (slot_of other) (slot_of lane) unit (target-was other copy.to.unit e ∙ ap (λ (u : ℕ). Some u) to_unit) usable.target) ∙ sym way ∙ ap (lane_at classes) same;
        }

    -- the new pages of before that lie in the unit lie before the page that was used
    before-page : (a : Copied) → Contains pass.copies a → a.to.unit ≡ unit → a.to.page < copy.to.page
    before-page a is same =
        let used : a.to.page < (unit_at s.units a.to.unit).next = (copies.lie a is).used in
        let next : (unit_at s.units a.to.unit).next ≡ (unit_at s.units unit).next = ap (λ (u : ℕ). (unit_at s.units u).next) same in
        omega (arith, used, next, to_page)

    was_filled : FillTargets s o classes pass
    was_filled = copies.filled

    -- a live page of the victim goes the way of the one that was copied
    same-way : (page u : ℕ) (y : Owner) → owner_at o (record { unit = pass.victim; page = page }) ≡ Some y → target_at passes (lane_at classes y) ≡ Some u → u ≡ unit
    same-way page u y is e =
        let lanes : lane_at classes y ≡ lane = have.same (record { unit = pass.victim; page = page }) copy.from y x victim is owned ∙ way in
        one (sym (target-was (lane_at classes y) u e) ∙ ap (target_at s.passes) lanes ∙ usable.target)

    -- the copy goes on where the last ones lie
    last-here : (was_filled.last ≡ []) ⊎ (unit ≡ was_filled.last_unit)
    last-here = was_filled.goes_on copy.from.page unit x (ap (λ (u : ℕ). owner_at o (record { unit = u; page = copy.from.page })) victim ∙ owned) (ap (target_at s.passes) way ∙ usable.target)

    last-copies : (a : Copied) → Contains was_filled.last a → Contains pass.copies a
    last-copies a is = subst (λ (xs : List Copied). Contains xs a) (sym was_filled.split) (Contains-append_right was_filled.first was_filled.last a is)

    last-lie : LieInOrder unit 0 (was_filled.last ++ copy ∷ [])
    last-lie = ⊎_elim
        (λ (none : was_filled.last ≡ []). subst (λ (xs : List Copied). LieInOrder unit 0 (xs ++ copy ∷ [])) (sym none) (to_unit, omega arith, tt))
        (λ (same : unit ≡ was_filled.last_unit).
        let lie : LieInOrder unit 0 was_filled.last = subst (λ (u : ℕ). LieInOrder u 0 was_filled.last) (sym same) was_filled.last_lie in
        in-order-push unit 0 was_filled.last copy lie to_unit (omega arith) (λ a is. before-page a (last-copies a is) (in-order-unit unit 0 was_filled.last a lie is)))
        last-here

    added-filled : FillTargets now o classes (with_copy copy pass)
    added-filled = record {
      first = was_filled.first;
      last = was_filled.last ++ copy ∷ [];
      first_unit = was_filled.first_unit;
      last_unit = unit;
      split = ap (λ (xs : List Copied). xs ++ copy ∷ []) was_filled.split ∙ append_assoc was_filled.first was_filled.last (copy ∷ []);
      first_lie = was_filled.first_lie;
      last_lie = last-lie;
      one = was_filled.one;
      goes_on = λ page u y is e. inr (same-way page u y is e);
    }

    added-copied : AreCopied now o classes rg (with_copy copy pass)
    added-copied = record {
      lie = λ c is. ⊎_elim
          (λ (old : Contains pass.copies c). old-lies c (copies.lie c old))
          (λ (e : copy ≡ c). subst (λ (k : Copied). IsCopyOf new rg (with_copy copy pass) k) e new-lies)
          (Contains-push_cases pass.copies copy c is);
      ascend = λ i j a b less e f. ⊎_elim
          (λ (first : slice_get pass.copies i ≡ Some a). ⊎_elim
          (λ (second : slice_get pass.copies j ≡ Some b). copies.ascend i j a b less first second)
          (λ (second : (j ≡ length pass.copies) × (copy ≡ b)).
          let behind : a.from.page < pass.next = (copies.lie a (place-contains pass.copies i a first)).behind in
          let page : copy.from.page ≡ b.from.page = ap (λ (k : Copied). k.from.page) second.1 in
          omega (arith, behind, order, page))
          (element j b f))
          (λ (first : (i ≡ length pass.copies) × (copy ≡ a)). ⊎_elim
          (λ (second : slice_get pass.copies j ≡ Some b).
          let within : j < length pass.copies = slice_get_within pass.copies j b second in
          absurd (omega (arith, less, first.0, within)))
          (λ (second : (j ≡ length pass.copies) × (copy ≡ b)). absurd (omega (arith, less, first.0, second.0)))
          (element j b f))
          (element i a e);
      differ = λ i j a b e f same. ⊎_elim
          (λ (first : slice_get pass.copies i ≡ Some a). ⊎_elim
          (λ (second : slice_get pass.copies j ≡ Some b). copies.differ i j a b first second same)
          (λ (second : (j ≡ length pass.copies) × (copy ≡ b)). absurd (page-apart i a first (same ∙ ap (λ (k : Copied). k.to) (sym second.1))))
          (element j b f))
          (λ (first : (i ≡ length pass.copies) × (copy ≡ a)). ⊎_elim
          (λ (second : slice_get pass.copies j ≡ Some b). absurd (page-apart j b second (sym same ∙ ap (λ (k : Copied). k.to) (sym first.1))))
          (λ (second : (j ≡ length pass.copies) × (copy ≡ b)). first.0 ∙ sym second.0)
          (element j b f))
          (element i a e);
      filled = added-filled;
      await = λ c y is e. ⊎_elim
          (λ (old : Contains pass.copies c). awaits-still c y (copies.await c y old e))
          (λ (same : copy ≡ c). subst (λ (k : Copied). Awaits now o classes k y) same (new-awaits y (ap (λ (k : Copied). owner_at o k.from) same ∙ e)))
          (Contains-push_cases pass.copies copy c is);
    }

    pub added-worked : AreWorked (record { passes = record passes { pass = option_map (with_copy copy) passes.pass }; units = new }) o classes rg
    added-worked = record {
      targeted = record { targeted = used-targeted.targeted; lanes = used-targeted.lanes; own = used-targeted.own };
      copied = λ q e.
          let is : with_copy copy pass ≡ q = one (sym (ap (option_map (with_copy copy)) ((uses-pass s passes new lane unit usable uses).0 ∙ under)) ∙ e) in
          subst (λ (z : Pass). AreCopied (record { passes = record passes { pass = option_map (with_copy copy) passes.pass }; units = new }) o classes rg z) is (record {
            lie = added-copied.lie;
            ascend = added-copied.ascend;
            differ = added-copied.differ;
            filled = let f = added-filled in record { first = f.first; last = f.last; first_unit = f.first_unit; last_unit = f.last_unit; split = f.split; first_lie = f.first_lie; last_lie = f.last_lie; one = f.one; goes_on = f.goes_on };
            await = λ c y in_copies owned. let a = added-copied.await c y in_copies owned in record { unowned = a.unowned; way = a.way; target = a.target };
          });
    }

-- ---- a page skipped

pub skipped-worked : (p : GroupPasses) (new : UnitTable) (o : OwnerTable) (classes : List Class) (rg : ℕ) (lane : Lane) → AreWorked (record { passes = p; units = new }) o classes rg → AreWorked (record { passes = goes_on p new o lane; units = new }) o classes rg
skipped-worked p new o classes rg lane was = how (nat_le (wanted_in p o) (room_in p new lane)) refl where
  how : (b : Bool) → nat_le (wanted_in p o) (room_in p new lane) ≡ b → AreWorked (record { passes = goes_on p new o lane; units = new }) o classes rg
  how true e = subst (λ (q : GroupPasses). AreWorked (record { passes = q; units = new }) o classes rg) (sym (ap (λ (b : Bool). if b then p else record p { pass = None }) e)) was
  how false e = subst (λ (q : GroupPasses). AreWorked (record { passes = q; units = new }) o classes rg) (sym (ap (λ (b : Bool). if b then p else record p { pass = None }) e)) (record {
    targeted = record { targeted = was.targeted.targeted; lanes = was.targeted.lanes; own = was.targeted.own };
    copied = λ pass f. absurd (never pass f);
  })
