-- The copies of a pass were moved: the victim has no live page any more.
use Rattle.std.proofs.Common.{◌≡◌, ◌≢◌, ℕ, zero, suc, ◌+◌, ◌<◌, ◌≤◌, Bool, true, false, ◌&&◌, ◌||◌, List, [], ◌∷◌, Option, Some, None, length, get_or, refl, sym, ◌∙◌, ap, subst, arith, ⊎_elim, eq-eqb}
use Rattle.std.specs.Prelude.{◌==◌, All, Contains, IsTrue, is_some, option_map, slice_index_or, slice_set}
use Rattle.std.proofs.lemmas.Bool.{cases_eq, cases_lt}
use Rattle.std.proofs.lemmas.List.Elements.{All-head, All-tail, Contains-get_or}
use Rattle.fdp_base.specs.declared.entry.Copied.{Copied}
use Rattle.fdp_base.specs.declared.entry.Spot.{Spot}
use Rattle.fdp_book.specs.fdp_pages.Joined.{AreCopied, AreJoined}
use Rattle.fdp_book.specs.fdp_pages.PageTables.{PageTables, copies_at, no_passes, passes_at, relocation_at}
use Rattle.fdp_book.specs.fdp_pages.Steps.{Recounts, ended_move}
use Rattle.fdp_book.proofs.fdp_pages.Regrouped.{group-low, passes-here, passes-there}
use Rattle.fdp_book.specs.fdp_trails.Moves.{owners_moved, with_moved}
use Rattle.fdp_book.proofs.fdp_trails.Moving.{cases_owner, cases_spot, moved-none, moved-some, owner-here, owner-there}
use Rattle.fdp_owners.specs.declared.owner.Owner.{Owner}
use Rattle.fdp_owners.specs.OwnerTable.{owner_at, with_owner}
use Rattle.fdp_passes.specs.declared.due.Due.TheVariants as due
use Rattle.fdp_passes.specs.Due.{IsDue, copies_in}
use Rattle.fdp_passes.specs.GroupPasses.{GroupPasses, Pass, without_copies}
use Rattle.fdp_units.specs.declared.data_unit.DataUnit.{DataUnit}
use Rattle.fdp_units.specs.declared.state.UnitState.{UnitState}
use Rattle.fdp_units.specs.declared.state.UnitState.TheVariants.{Closed}
use Rattle.fdp_units.specs.DataUnits.{is_closed, is_free, is_target}
use Rattle.fdp_units.specs.UnitTable.{IsGroup, IsUnit, group_in, state_at, unit_at}
use Rattle.fdp_roominess.specs.Room.{HasRoom, HasRoomWith, HaveRoom, taken_in}
use Rattle.fdp_roominess.specs.Units.{is_spare, is_free_unit, units_where}
use Rattle.fdp_roominess.proofs.Counting.{units-more, units-one}
use Rattle.fdp_roominess.proofs.Keeping.{group-was, room-kept, unused-spare, worse-live}
use Rattle.fdp_roominess.proofs.Owning.{none-live, still-none}

never : {z : Owner} → None ≡ Some z → ⊥
never n = cc

-- ---- owners that were moved

-- a page without an owner that is no new page of a copy gets none
one-none : (owners : Spot → Option Owner) (x : Copied) (spot : Spot) → spot ≢ x.to → owners spot ≡ None → with_moved owners x spot ≡ None
one-none owners x spot apart none = ⊎_elim
    (λ (unmoved : owners x.from ≡ None). ap (λ (f : Spot → Option Owner). f spot) (moved-none owners x unmoved) ∙ none)
    (λ moves.
    ap (λ (f : Spot → Option Owner). f spot) (moved-some owners x moves.0 moves.1)
    ∙ owner-there (with_owner owners x.from None) x.to (Some moves.0) spot apart
    ∙ ⊎_elim
    (λ (same : spot ≡ x.from). ap (with_owner owners x.from None) same ∙ owner-here owners x.from None)
    (λ (ne : spot ≢ x.from). owner-there owners x.from None spot ne ∙ none)
    (cases_spot spot x.from))
    (cases_owner (owners x.from))

-- the old page of a copy has none
old-none : (owners : Spot → Option Owner) (x : Copied) → x.from ≢ x.to → with_moved owners x x.from ≡ None
old-none owners x apart = ⊎_elim
    (λ (unmoved : owners x.from ≡ None). ap (λ (f : Spot → Option Owner). f x.from) (moved-none owners x unmoved) ∙ unmoved)
    (λ moves.
    ap (λ (f : Spot → Option Owner). f x.from) (moved-some owners x moves.0 moves.1)
    ∙ owner-there (with_owner owners x.from None) x.to (Some moves.0) x.from apart
    ∙ owner-here owners x.from None)
    (cases_owner (owners x.from))

-- so it is after all copies
pub stays-none : (owners : Spot → Option Owner) (copies : List Copied) (spot : Spot) → All (λ (x : Copied). spot ≢ x.to) copies → owners spot ≡ None → owners_moved owners copies spot ≡ None
stays-none owners [] spot apart none = none
stays-none owners (x ∷ xs) spot apart none =
    stays-none (with_moved owners x) xs spot (All-tail (λ (z : Copied). spot ≢ z.to) x xs apart)
    (one-none owners x spot (All-head (λ (z : Copied). spot ≢ z.to) x xs apart) none)

comes-none : (owners : Spot → Option Owner) (copies : List Copied) (spot : Spot) → All (λ (x : Copied). spot ≢ x.to) copies → (k : ℕ) (d : Copied) → k < length copies → (get_or copies k d).from ≡ spot → owners_moved owners copies spot ≡ None
comes-none owners [] spot apart k d low is = absurd (omega (arith, low))
comes-none owners (x ∷ xs) spot apart zero d low is =
    let here : spot ≢ x.to = All-head (λ (z : Copied). spot ≢ z.to) x xs apart in
    stays-none (with_moved owners x) xs spot (All-tail (λ (z : Copied). spot ≢ z.to) x xs apart)
    (ap (with_moved owners x) (sym is) ∙ old-none owners x (λ same. here (sym is ∙ same)))
comes-none owners (x ∷ xs) spot apart (suc k) d low is = comes-none (with_moved owners x) xs spot (All-tail (λ (z : Copied). spot ≢ z.to) x xs apart) k d (omega (arith, low)) is

-- ---- the pass

-- a pass without its copies took a unit if it had taken one
ended-taken : (p : GroupPasses) → taken_in (ended_move p) ≡ taken_in p
ended-taken p = chosen p.pass where
  chosen : (o : Option Pass) → option_map (λ (pass : Pass). pass.took_unit) (option_map without_copies o) ≡ option_map (λ (pass : Pass). pass.took_unit) o
  chosen None = refl
  chosen (Some pass) = refl

module _ (t now : PageTables) (rg : ℕ) (joined : AreJoined t) (there : IsGroup t.units rg) (is_due : IsDue (passes_at t rg) t.units t.owners rg due.Move) (owners : owner_at now.owners ≡ owners_moved (owner_at t.owners) (copies_at t rg)) (counts : Recounts t.units now.units now.owners)
    (passes : now.passes ≡ slice_set t.passes rg (ended_move (passes_at t rg))) where
  abbrev pass : Pass
  pass = is_due.0

  abbrev copies : List Copied
  copies = copies_at t rg

  under_way : (passes_at t rg).pass ≡ Some pass
  under_way = is_due.1

  listed : copies ≡ pass.copies
  listed = ap (λ (o : Option Pass). copies_in (record (passes_at t rg) { pass = o })) under_way

  copied : AreCopied (relocation_at t rg) t.owners t.handles.classes rg pass
  copied = (joined.groups rg there).copied pass under_way

  victim : IsUnit t.units pass.victim × (group_in t.units pass.victim ≡ rg) × (state_at t.units pass.victim ≡ Closed)
  victim = let h = (joined.groups rg there).ready.victim pass under_way in (h.is_unit, h.group, h.stands)

  among : (k : ℕ) (d : Copied) → k < length copies → Contains pass.copies (get_or copies k d)
  among k d low = subst (λ (xs : List Copied). Contains xs (get_or copies k d)) listed (Contains-get_or copies k d low)

  -- no new page of a copy lies in the victim, nor in another group
  apart-victim : (page : ℕ) → All (λ (x : Copied). record { unit = pass.victim; page = page } ≢ x.to) copies
  apart-victim page k d low same = (copied.lie (get_or copies k d) (among k d low)).apart (sym (ap (λ (s : Spot). s.unit) same))

  apart-group : (unit page : ℕ) → group_in t.units unit ≢ rg → All (λ (x : Copied). record { unit = unit; page = page } ≢ x.to) copies
  apart-group unit page ne k d low same = ne (ap (λ (s : Spot). group_in t.units s.unit) same ∙ (copied.lie (get_or copies k d) (among k d low)).group)

  -- a page of the victim has no owner any more
  victim-none : (page : ℕ) → owner_at now.owners (record { unit = pass.victim; page = page }) ≡ None
  victim-none page =
      let spot : Spot = record { unit = pass.victim; page = page } in
      ap (λ (f : Spot → Option Owner). f spot) owners ∙ ⊎_elim
      (λ (none : owner_at t.owners (record { unit = pass.victim; page = page }) ≡ None). stays-none (owner_at t.owners) copies spot (apart-victim page) none)
      (λ owned. ⊎_elim
      (λ (low : page < pass.next).
      let old = (joined.groups rg there).ready.copied pass page under_way low (ap is_some owned.1) in
      let place : Contains copies old.0 = subst (λ (xs : List Copied). Contains xs old.0) (sym listed) old.1 in
      comes-none (owner_at t.owners) copies spot (apart-victim page) place.0 old.0 place.1 (ap (λ (x : Copied). x.from) place.2 ∙ old.2))
      (λ (high : pass.next ≤ page). absurd (never (sym (is_due.3 page high) ∙ owned.1)))
      (cases_lt page pass.next))
      (cases_owner (owner_at t.owners (record { unit = pass.victim; page = page })))

  victim-live : (unit_at now.units pass.victim).live ≡ 0
  victim-live = counts.counted pass.victim victim.0 ∙ none-live now.owners pass.victim (λ page x e. never (sym (victim-none page) ∙ e))

  same-state : (unit : ℕ) → state_at now.units unit ≡ state_at t.units unit
  same-state unit = ap (λ (x : DataUnit). x.state) (counts.kept unit)

  -- the group itself
  more : units_where t.units rg is_free_unit ≤ units_where now.units rg is_free_unit
  more = units-more t.units now.units rg is_free_unit is_free_unit counts.cut there (λ unit is group h. ap is_free (same-state unit) ∙ h)

  -- the victim is spare, beside the free units
  spare-victim : IsTrue (is_spare (unit_at now.units pass.victim))
  spare-victim = ap (λ (s : UnitState). is_free s || (is_closed s || is_target s) && ((unit_at now.units pass.victim).live == 0)) (same-state pass.victim ∙ victim.2) ∙ eq-eqb (unit_at now.units pass.victim).live 0 victim-live

  one-more : units_where t.units rg is_free_unit + 1 ≤ units_where now.units rg is_spare
  one-more =
      units-one t.units now.units rg is_free_unit is_spare counts.cut there pass.victim victim.0 victim.1
      (λ unit is group ne h. unused-spare (unit_at now.units unit) (ap is_free (same-state unit) ∙ h))
      (ap is_free victim.2) spare-victim

  with-taken : (taken : Option Bool) → taken_in (passes_at t rg) ≡ taken → HasRoomWith taken t.units rg → HasRoomWith taken now.units rg
  with-taken None e h = absurd (under (sym (ap (λ (o : Option Pass). option_map (λ (p : Pass). p.took_unit) o) under_way) ∙ e)) where
    under : Some pass.took_unit ≡ None → ⊥
    under n = cc
  with-taken (Some false) e h = omega (arith, h, more)
  with-taken (Some true) e h = (omega (arith, h.0, more), omega (arith, h.0, one-more))

  own-passes : passes_at now rg ≡ ended_move (passes_at t rg)
  own-passes = ap (λ (ps : List GroupPasses). slice_index_or ps rg no_passes) passes ∙ passes-here t rg (ended_move (passes_at t rg)) (group-low t rg joined there)

  own-room : HasRoom t rg → HasRoom now rg
  own-room h = subst (λ (taken : Option Bool). HasRoomWith taken now.units rg) (sym (ap taken_in own-passes ∙ ended-taken (passes_at t rg))) (with-taken (taken_in (passes_at t rg)) refl h)

  -- another group
  other-room : (other : ℕ) → IsGroup t.units other → other ≢ rg → HasRoom t other → HasRoom now other
  other-room other is ne =
      room-kept t now other is (record {
        cut = counts.cut;
        each = λ unit is_unit group. worse-live (unit_at t.units unit) (unit_at now.units unit) (same-state unit)
            (λ zero. counts.counted unit is_unit ∙ still-none t.owners now.owners unit (kept unit group) (sym (joined.live.counted unit is_unit) ∙ zero));
      }) (ap taken_in (ap (λ (ps : List GroupPasses). slice_index_or ps other no_passes) passes ∙ passes-there t rg other (ended_move (passes_at t rg)) ne)) where
        kept : (unit : ℕ) → group_in t.units unit ≡ other → (page : ℕ) (x : Owner) → owner_at now.owners (record { unit = unit; page = page }) ≡ Some x → (y : Owner) × (owner_at t.owners (record { unit = unit; page = page }) ≡ Some y)
        kept unit group page x e = ⊎_elim
            (λ (none : owner_at t.owners (record { unit = unit; page = page }) ≡ None).
            absurd (never (sym (stays-none (owner_at t.owners) copies (record { unit = unit; page = page }) (apart-group unit page (λ same. ne (sym group ∙ same))) none) ∙ sym (ap (λ (f : Spot → Option Owner). f (record { unit = unit; page = page })) owners) ∙ e)))
            (λ owned. owned)
            (cases_owner (owner_at t.owners (record { unit = unit; page = page })))

  pub room-moved : HaveRoom t → HaveRoom now
  room-moved h other there_now =
      let is = group-was t.units now.units other counts.cut there_now in
      ⊎_elim
      (λ (same : other ≡ rg). subst (HasRoom now) (sym same) (own-room (h rg there)))
      (λ (ne : other ≢ rg). other-room other is ne (h other is))
      (cases_eq other rg)
