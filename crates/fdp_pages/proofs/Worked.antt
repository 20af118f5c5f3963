-- The targets and the copies of a group after each part of a step of relocation.
use Rattle.std.proofs.Common.{◌≡◌, ◌≢◌, ℕ, ◌<◌, ◌≤◌, true, false, inl, List, [], ◌++◌, Option, Some, None, refl, ap, sym, ◌∙◌, subst, arith, ⊎_elim, get_or-set_other}
use Rattle.std.specs.Prelude.{Contains, IsFalse, is_some, slice_get, slice_index_or}
use Rattle.std.proofs.lemmas.Bool.{cases_eq}
use Rattle.std.proofs.lemmas.List.{append-nil}
use Rattle.fdp_base.specs.declared.config.Class.{Class}
use Rattle.fdp_base.specs.declared.entry.Copied.{Copied}
use Rattle.fdp_collector.specs.Ready.{AreLive, Relocation}
use Rattle.fdp_collector.proofs.Kept.{changed-other, group-kept, unit-kept, unit-of-kept}
use Rattle.fdp_collector.proofs.Readied.{IsHaving, IsTaking}
use Rattle.fdp_owners.specs.OwnerTable.{OwnerTable}
use Rattle.fdp_pages.specs.Joined.{AreCopied, AreTargeted, IsCopyOf, IsLaneOf}
use Rattle.fdp_pages.proofs.Groups.{is_filled, pages-of}
use Rattle.fdp_pages.proofs.Inside.{slot-one}
use Rattle.fdp_pages.proofs.Places.{never, one}
use Rattle.fdp_passes.specs.declared.lane.Lane.{Lane}
use Rattle.fdp_passes.specs.GroupPasses.{GroupPasses, Pass, begun, slot_of, target_at, with_unit_taken}
use Rattle.fdp_passes.specs.Place.{has_taken}
use Rattle.fdp_passes.specs.Targets.{OpensTarget, pass_in, with_pass}
use Rattle.fdp_units.specs.declared.data_unit.DataUnit.{DataUnit}
use Rattle.fdp_units.specs.declared.state.UnitState.TheVariants.{Target}
use Rattle.fdp_units.specs.UnitTable.{UnitTable, cut_of, state_at, unit_at}

-- the targets of a group, and what its pass has copied
pub record AreWorked (s : Relocation) (o : OwnerTable) (classes : List Class) (rg : ℕ) : Type 0 where
  pub targeted : AreTargeted s o classes rg
  pub copied : (pass : Pass) → s.passes.pass ≡ Some pass → AreCopied s o classes rg pass

no-copy : (C : Type 0) (copy : Copied) → Contains [] copy → C
no-copy C copy is = absurd (omega (arith, is.1))

-- a pass without copies
pub begun-copied : (s : Relocation) (o : OwnerTable) (classes : List Class) (rg : ℕ) (pass : Pass) → pass.copies ≡ [] → AreCopied s o classes rg pass
begun-copied s o classes rg pass none = record {
  lie = λ copy is. no-copy _ copy (subst (λ (xs : List Copied). Contains xs copy) none is);
  ascend = λ i j a b low e f. absurd (never a (ap (λ (xs : List Copied). slice_get xs i) (sym none) ∙ e));
  differ = λ i j a b e f same. absurd (never a (ap (λ (xs : List Copied). slice_get xs i) (sym none) ∙ e));
  filled = record {
    first = [];
    last = [];
    first_unit = 0;
    last_unit = 0;
    split = none;
    first_lie = tt;
    last_lie = tt;
    one = λ untaken. refl;
    goes_on = λ page unit x owned target. inl refl;
  };
  await = λ copy x is owned. no-copy _ copy (subst (λ (xs : List Copied). Contains xs copy) none is);
}

-- ---- the pass is over

-- targets stay where none was opened and none closed
pub targets-stay : (s now : Relocation) (o : OwnerTable) (classes : List Class) (rg : ℕ) → cut_of now.units ≡ cut_of s.units → now.passes.targets ≡ s.passes.targets → ((unit : ℕ) → state_at now.units unit ≡ Target → state_at s.units unit ≡ Target) → AreTargeted s o classes rg → AreTargeted now o classes rg
targets-stay s now o classes rg cut same back was = record {
  targeted = λ unit is.
      let old = was.targeted unit (unit-of-kept now.units s.units rg unit Target (sym cut) is (back unit is.stands ∙ sym is.stands)) in
      (old.0, target old.0 ∙ old.1);
  lanes = λ unit lane e. was.lanes unit lane (sym (target lane) ∙ e);
  own = λ unit lane spot x e. was.own unit lane spot x (sym (target lane) ∙ e);
} where
  target : (lane : Lane) → target_at now.passes lane ≡ target_at s.passes lane
  target lane = ap (λ (xs : List (Option ℕ)). slice_index_or xs (slot_of lane) None) same

pub ended-worked : (s now : Relocation) (o : OwnerTable) (classes : List Class) (rg : ℕ) → cut_of now.units ≡ cut_of s.units → now.passes ≡ record s.passes { pass = None } → ((unit : ℕ) → state_at now.units unit ≡ Target → state_at s.units unit ≡ Target) → AreTargeted s o classes rg → AreWorked now o classes rg
ended-worked s now o classes rg cut passes back was = record {
  targeted = targets-stay s now o classes rg cut (ap (λ (p : GroupPasses). p.targets) passes) back was;
  copied = λ pass e. absurd (never pass (ap (λ (p : GroupPasses). p.pass) (sym passes) ∙ e));
}

-- ---- a page is found for a copy

-- the pass under way, or one that begins, has copied the same
pass-copied : (s : Relocation) (o : OwnerTable) (classes : List Class) (rg victim : ℕ) → AreWorked s o classes rg → AreCopied s o classes rg (pass_in s.passes victim)
pass-copied s o classes rg victim was = cases s.passes.pass refl where
  cases : (q : Option Pass) → s.passes.pass ≡ q → AreCopied s o classes rg (pass_in (record s.passes { pass = q }) victim)
  cases None e = begun-copied s o classes rg (begun victim) refl
  cases (Some pass) e = was.copied pass e

having-worked : (s now : Relocation) (o : OwnerTable) (classes : List Class) (rg victim : ℕ) (lane : Lane) (unit : ℕ) → IsHaving s now victim lane unit → AreWorked s o classes rg → AreWorked now o classes rg
having-worked s now o classes rg victim lane unit has was =
    subst (λ (p : GroupPasses). AreWorked (record { passes = p; units = now.units }) o classes rg) (sym has.passes)
    (subst (λ (t : UnitTable). AreWorked (record { passes = with_pass (pass_in s.passes victim) s.passes; units = t }) o classes rg) (sym has.units) (record {
      targeted = record { targeted = was.targeted.targeted; lanes = was.targeted.lanes; own = was.targeted.own };
      copied = λ pass e. subst (λ (q : Pass). AreCopied (record { passes = with_pass (pass_in s.passes victim) s.passes; units = s.units }) o classes rg q) (one e) (other (pass_in s.passes victim) (pass-copied s o classes rg victim was));
    })) where
      other : (q : Pass) → AreCopied s o classes rg q → AreCopied (record { passes = with_pass (pass_in s.passes victim) s.passes; units = s.units }) o classes rg q
      other q h = record {
        lie = h.lie;
        ascend = h.ascend;
        differ = h.differ;
        filled = let f = h.filled in record { first = f.first; last = f.last; first_unit = f.first_unit; last_unit = f.last_unit; split = f.split; first_lie = f.first_lie; last_lie = f.last_lie; one = f.one; goes_on = f.goes_on };
        await = λ copy x is owned. let a = h.await copy x is owned in record { unowned = a.unowned; way = a.way; target = a.target };
      }

module _ (s now : Relocation) (o : OwnerTable) (classes : List Class) (rg victim : ℕ) (lane : Lane) (unit : ℕ) (live : AreLive s.units o) (stands : target_at now.passes lane ≡ Some unit) (way : IsLaneOf classes lane) (takes : IsTaking s now rg victim lane unit) (was : AreWorked s o classes rg) where
  old-target : (other : Lane) → slot_of other ≢ slot_of lane → target_at now.passes other ≡ target_at s.passes other
  old-target other ne = ap (λ (p : GroupPasses). slice_index_or p.targets (slot_of other) None) takes.passes ∙ get_or-set_other s.passes.targets (slot_of lane) (slot_of other) (Some unit) None ne

  -- no page of the unit was used
  unused : (unit_at s.units unit).next ≡ 0
  unused = live.unused unit takes.free.is_free.free

  unit-same : (u : ℕ) → u ≢ unit → unit_at now.units u ≡ unit_at s.units u
  unit-same u ne = changed-other s.units now.units unit u _ takes.taken ne

  taking-targeted : AreTargeted now o classes rg
  taking-targeted = record {
    targeted = λ u is. ⊎_elim
        (λ (same : u ≡ unit). (lane, stands ∙ ap (λ (k : ℕ). Some k) (sym same)))
        (λ (ne : u ≢ unit).
        let old = was.targeted.targeted u (unit-of-kept now.units s.units rg u Target (sym takes.taken.cut) is (ap (λ (x : DataUnit). x.state) (sym (unit-same u ne)))) in
        let apart : slot_of old.0 ≢ slot_of lane = λ e. never u (sym takes.none ∙ ap (λ (k : ℕ). slice_index_or s.passes.targets k None) (sym e) ∙ old.1) in
        (old.0, old-target old.0 apart ∙ old.1))
        (cases_eq u unit);
    lanes = λ u other e. ⊎_elim
        (λ (same : slot_of other ≡ slot_of lane). subst (λ (l : Lane). IsLaneOf classes l) (sym (slot-one other lane same)) way)
        (λ (ne : slot_of other ≢ slot_of lane). was.targeted.lanes u other (sym (old-target other ne) ∙ e))
        (cases_eq (slot_of other) (slot_of lane));
    own = λ u other spot x e unit_is owned. ⊎_elim
        (λ (same : slot_of other ≡ slot_of lane).
        let is : u ≡ unit = one (sym e ∙ ap (target_at now.passes) (slot-one other lane same) ∙ stands) in
        let below : spot.page < (unit_at s.units spot.unit).next = live.used spot (ap is_some owned) in
        let none : (unit_at s.units spot.unit).next ≡ 0 = ap (λ (k : ℕ). (unit_at s.units k).next) (unit_is ∙ is) ∙ unused in
        absurd (omega (arith, below, none)))
        (λ (ne : slot_of other ≢ slot_of lane). was.targeted.own u other spot x (sym (old-target other ne) ∙ e) unit_is owned)
        (cases_eq (slot_of other) (slot_of lane));
  }

  -- a new page of a copy lies in another unit
  copy-away : (pass : Pass) (copy : Copied) → IsCopyOf s.units rg pass copy → copy.to.unit ≢ unit
  copy-away pass copy lie same =
      let used : copy.to.page < (unit_at s.units copy.to.unit).next = lie.used in
      let none : (unit_at s.units copy.to.unit).next ≡ 0 = ap (λ (k : ℕ). (unit_at s.units k).next) same ∙ unused in
      absurd (omega (arith, used, none))

  taking-copied : (pass : Pass) → pass.copies ≡ (pass_in s.passes victim).copies → pass.victim ≡ (pass_in s.passes victim).victim → pass.next ≡ (pass_in s.passes victim).next → pass.took_unit ≡ true → AreCopied now o classes rg pass
  taking-copied pass copies same_victim next taken = record {
    lie = λ copy is.
        let lie = h.lie copy (own copy is) in
        let same : unit_at now.units copy.to.unit ≡ unit_at s.units copy.to.unit = unit-same copy.to.unit (copy-away _ copy lie) in
        let behind : copy.from.page < (pass_in s.passes victim).next = lie.behind in
        let used : copy.to.page < (unit_at s.units copy.to.unit).next = lie.used in
        let within : (unit_at s.units copy.to.unit).next ≤ s.units.unit_pages = lie.within in
        let now_next : (unit_at now.units copy.to.unit).next ≡ (unit_at s.units copy.to.unit).next = ap (λ (x : DataUnit). x.next) same in
        let pages : now.units.unit_pages ≡ s.units.unit_pages = pages-of s.units now.units takes.taken.cut in
        record {
          victim = lie.victim ∙ sym same_victim;
          behind = omega (arith, behind, next);
          from_page = omega (arith, pages, lie.from_page);
          is_unit = unit-kept s.units now.units copy.to.unit takes.taken.cut lie.is_unit;
          group = group-kept s.units now.units copy.to.unit rg takes.taken.cut lie.group;
          stands = ap (λ (x : DataUnit). is_filled x.state) same ∙ lie.stands;
          apart = λ e. lie.apart (e ∙ same_victim);
          used = omega (arith, used, now_next);
          within = omega (arith, within, now_next, pages);
        };
    ascend = λ i j a b low e f. h.ascend i j a b low (read i a e) (read j b f);
    differ = λ i j a b e f. h.differ i j a b (read i a e) (read j b f);
    filled = record {
      first = h.filled.last;
      last = [];
      first_unit = h.filled.last_unit;
      last_unit = 0;
      split = copies ∙ h.filled.split ∙ ap (λ (xs : List Copied). xs ++ h.filled.last) (h.filled.one (untaken s.passes.pass takes.first)) ∙ sym (append-nil h.filled.last);
      first_lie = h.filled.last_lie;
      last_lie = tt;
      one = λ not_taken. absurd (no (sym taken ∙ not_taken));
      goes_on = λ page u x owned target. inl refl;
    };
    await = λ copy x is owned.
        let a = h.await copy x (own copy is) owned in
        record {
          unowned = a.unowned;
          way = a.way;
          target = λ other e. ⊎_elim
              (λ (same : slot_of other ≡ slot_of lane). absurd (copy-away _ copy (h.lie copy (own copy is)) (one (sym e ∙ ap (target_at now.passes) (slot-one other lane same) ∙ stands))))
              (λ (ne : slot_of other ≢ slot_of lane). a.target other (sym (old-target other ne) ∙ e))
              (cases_eq (slot_of other) (slot_of lane));
        };
  } where
    h : AreCopied s o classes rg (pass_in s.passes victim)
    h = pass-copied s o classes rg victim was

    -- the pass took no unit before
    untaken : (q : Option Pass) → IsFalse (has_taken (record s.passes { pass = q })) → (pass_in (record s.passes { pass = q }) victim).took_unit ≡ false
    untaken None first = refl
    untaken (Some x) first = first

    no : true ≡ false → ⊥
    no e = cc

    own : (copy : Copied) → Contains pass.copies copy → Contains (pass_in s.passes victim).copies copy
    own copy is = subst (λ (xs : List Copied). Contains xs copy) copies is

    read : (i : ℕ) (a : Copied) → slice_get pass.copies i ≡ Some a → slice_get (pass_in s.passes victim).copies i ≡ Some a
    read i a e = ap (λ (xs : List Copied). slice_get xs i) (sym copies) ∙ e

  taking-worked : AreWorked now o classes rg
  taking-worked = record {
    targeted = taking-targeted;
    copied = λ pass e.
        let is : with_unit_taken (pass_in s.passes victim) ≡ pass = one (ap (λ (p : GroupPasses). p.pass) (sym takes.passes) ∙ e) in
        taking-copied pass (ap (λ (q : Pass). q.copies) (sym is)) (ap (λ (q : Pass). q.victim) (sym is)) (ap (λ (q : Pass). q.next) (sym is)) (ap (λ (q : Pass). q.took_unit) (sym is));
  }

pub opened-worked : (s now : Relocation) (o : OwnerTable) (classes : List Class) (rg victim : ℕ) (lane : Lane) (unit : ℕ) → AreLive s.units o → target_at now.passes lane ≡ Some unit → IsLaneOf classes lane → OpensTarget s.passes now.passes s.units now.units rg victim lane unit → AreWorked s o classes rg → AreWorked now o classes rg
opened-worked s now o classes rg victim lane unit live stands way opened was = ⊎_elim
    (λ (h : IsHaving s now victim lane unit). having-worked s now o classes rg victim lane unit h was)
    (λ (h : IsTaking s now rg victim lane unit). taking-worked s now o classes rg victim lane unit live stands way h was)
    opened
