-- What the copy of a page leaves, and that it may follow.
use Rattle.std.proofs.Common.{◌≡◌, ◌≢◌, ℕ, ◌<◌, Bool, true, false, List, [], ◌∷◌, ◌++◌, Option, Some, refl, sym, ◌∙◌, ap, subst, arith, ⊎_elim, inl, inr}
use Rattle.std.specs.Prelude.{Contains, IsTrue, slice_get}
use Rattle.std.specs.Option.{option_map_or}
use Rattle.std.proofs.lemmas.Bool.{cases_eq}
use Rattle.std.proofs.lemmas.List.Elements.{Contains-push_cases}
use Rattle.fdp_base.specs.declared.config.DriveConfig.{DriveConfig}
use Rattle.fdp_base.specs.declared.config.Geometry.{Geometry}
use Rattle.fdp_base.specs.declared.entry.Copied.{Copied}
use Rattle.fdp_base.specs.declared.entry.Entry.TheVariants as entries
use Rattle.fdp_base.specs.declared.entry.Spot.{Spot}
use Rattle.fdp_pages.specs.fdp_collector.Ready.{IsBlankBehind, IsReady, IsUnitOf, Relocation, lane_at}
use Rattle.fdp_pages.specs.fdp_collector.Step.{AddsCopy}
use Rattle.fdp_pages.proofs.fdp_collector.Kept.{group-kept}
use Rattle.fdp_pages.proofs.fdp_collector.Opening.{open-ready}
use Rattle.fdp_pages.proofs.fdp_collector.Readied.{HasPass, WasUnused, copy-blank, emptied-unit, open-cut, open-next, open-pass, open-unit, target-of}
use Rattle.fdp_flash.specs.declared.cell.Cell.{Cell}
use Rattle.fdp_flash.specs.declared.cell.Cell.TheVariants.{Blank}
use Rattle.fdp_flash.specs.Layout.{page_number}
use Rattle.fdp_history.specs.Orderly.{IsOrderly}
use Rattle.fdp_locations.specs.Located.{AreLed, AreUnitsOf, next_in}
use Rattle.fdp_locations.specs.Written.{Written, written_after}
use Rattle.fdp_locations.proofs.Others.{ChangesPasses, alike-joined, copy-next, data-unit, group-same, is-group, opened-alike, passes-other, unreferenced, used-alike}
use Rattle.fdp_locations.proofs.Owned.{owned-written}
use Rattle.fdp_locations.proofs.Relocated.{HasCopyMore, led-copied}
use Rattle.fdp_locations.proofs.Units.{AreLostAlike, HasSameUnits}
use Rattle.fdp_owners.specs.declared.owner.Owner.{Owner}
use Rattle.fdp_owners.specs.OwnerTable.{owner_at}
use Rattle.fdp_owners.proofs.Tables.{owned-within}
use Rattle.fdp_pages.specs.Joined.{AreJoined, IsRelocating}
use Rattle.fdp_pages.specs.PageTables.{PageTables, copies_at, passes_at, relocation_at}
use Rattle.fdp_passes.specs.declared.due.Due.TheVariants as due
use Rattle.fdp_passes.specs.declared.lane.Lane.{Lane}
use Rattle.fdp_passes.specs.Due.{IsDue, copies_in}
use Rattle.fdp_passes.specs.GroupPasses.{GroupPasses, Pass, slot_of}
use Rattle.fdp_passes.specs.Targets.{OpensPage, UsesPage}
use Rattle.fdp_pointers.specs.Facts.{Page, with_next}
use Rattle.fdp_pointers.specs.Pointers.{Behind}
use Rattle.fdp_rules.specs.Change.{after, changed_by}
use Rattle.fdp_rules.specs.Next.{next}
use Rattle.fdp_rules.specs.Point.{Point}
use Rattle.fdp_rules.specs.Sites.{group_of}
use Rattle.fdp_rules.specs.Step.{Follows, IsCopied, IsPage}
use Rattle.fdp_trails.specs.Followed.{HasNoEarlier, IsNextCopy}
use Rattle.fdp_trails.proofs.Grouping.{all-copied, due-next}
use Rattle.fdp_trails.proofs.Joining.{first-early}
use Rattle.fdp_units.specs.declared.state.UnitState.TheVariants.{Closed, Referenced, Target}
use Rattle.fdp_units.specs.DataUnits.{is_free}
use Rattle.fdp_units.specs.UnitTable.{Cut, UnitTable, cut_of, state_at}

no : false ≡ true → ⊥
no e = cc

target-referenced : Target ≡ Referenced → ⊥
target-referenced e = cc

closed-referenced : Closed ≡ Referenced → ⊥
closed-referenced e = cc

closed-target : Closed ≡ Target → ⊥
closed-target e = cc

follows-copied : (told : Bool) (c : DriveConfig) (p : Point) (from to : Spot) → IsCopied c p from to → Follows told c p (entries.Copied (record { from = from; to = to }))
unfolding Follows
follows-copied told c p from to h = h

pub copied-units : (c : DriveConfig) (p : Point) (copy : Copied) → HasSameUnits p.state (next c p (entries.Copied copy)).state
unfolding next after changed_by
copied-units c p copy = record { enabled = refl; index = refl; references = refl; is_lost = refl; is_worn = refl }

-- a page of a victim is to be copied, and another was found for it
module _ (c : DriveConfig) (p : Point) (t : PageTables) (rg : ℕ) (from to : Spot) (owner : Owner) (middle : Relocation) (joined : AreJoined t) (units : AreUnitsOf c p.state t) (low : rg < c.groups) (is_due : IsDue (passes_at t rg) t.units t.owners rg (due.Copy from)) (owned : owner_at t.owners from ≡ Some owner) (opened : OpensPage (passes_at t rg) middle.passes t.units middle.units rg from.unit (lane_at t.handles.classes owner) to) where
  abbrev lane : Lane
  lane = lane_at t.handles.classes owner

  abbrev was : Relocation
  was = relocation_at t rg

  own : IsRelocating was t.owners t.handles.classes rg
  own = joined.groups rg (is-group c p.state t rg units low)

  closed : IsUnitOf t.units rg from.unit Closed
  closed = emptied-unit was t.owners t.handles.classes rg from.unit own.ready is_due.0

  cut : cut_of middle.units ≡ cut_of t.units
  cut = open-cut was middle rg from.unit lane to.unit opened.target

  unused : WasUnused was to.unit
  unused = open-unit was middle rg from.unit lane to.unit (target-of was t.owners t.handles.classes rg lane own.ready) opened.target

  middle-ready : IsReady middle t.owners t.handles.classes rg
  middle-ready = open-ready was middle t.owners t.handles.classes rg from to owner own.ready is_due owned opened

  filled : IsUnitOf middle.units rg to.unit Target
  filled = middle-ready.targets.targets (slot_of lane) to.unit opened.stands

  unfilled : state_at t.units to.unit ≡ Referenced → ⊥
  unfilled e =
      ⊎_elim
      (λ (is : state_at t.units to.unit ≡ Target). target-referenced (sym is ∙ e))
      (λ (free : IsTrue (is_free (state_at t.units to.unit))). no (sym (ap is_free e) ∙ free))
      unused.stands

  apart : from.unit ≢ to.unit
  apart same =
      let is_closed : state_at t.units to.unit ≡ Closed = ap (state_at t.units) (sym same) ∙ closed.stands in
      ⊎_elim
      (λ (is : state_at t.units to.unit ≡ Target). closed-target (sym is_closed ∙ is))
      (λ (free : IsTrue (is_free (state_at t.units to.unit))). no (sym (ap is_free is_closed) ∙ free))
      unused.stands

  group : group_of c from.unit ≡ rg
  group = group-same c p.state t from.unit units ∙ closed.group

  from-page : from.page < c.unit_pages
  from-page =
      let inside : from.page < t.owners.unit_pages = owned-within t.owners from owner owned in
      let pages : t.units.unit_pages ≡ c.unit_pages = ap (λ (x : Cut). x.unit_pages) units.cut in
      omega (arith, inside, pages, joined.cut.owners.unit_pages)

  to-page : to.page < c.unit_pages
  to-page =
      let inside : to.page < middle.units.unit_pages = opened.within in
      let pages : middle.units.unit_pages ≡ c.unit_pages = ap (λ (x : Cut). x.unit_pages) (cut ∙ units.cut) in
      omega (arith, inside, pages)

  -- the new page is one of the drive
  pub copy-to : IsPage c to
  copy-to = (data-unit c p.state t to.unit units unused.is_unit, to-page)

  pub copy-follows : (told : Bool) → Follows told c p (entries.Copied (record { from = from; to = to }))
  copy-follows told = follows-copied told c p from to (record {
    from = (data-unit c p.state t from.unit units closed.is_unit, from-page);
    to = copy-to;
    apart = apart;
    group = group ∙ sym (group-same c p.state t to.unit units ∙ group-kept middle.units t.units to.unit rg (sym cut) filled.group);
    from_unreferenced = unreferenced c p.state t from.unit units joined.filled (λ e. closed-referenced (sym closed.stands ∙ e));
    to_unreferenced = unreferenced c p.state t to.unit units joined.filled unfilled;
  })

  -- the pass that stands then
  pub copy-pass : HasPass was middle from.unit
  copy-pass = open-pass was middle rg from.unit lane to.unit opened.target

  -- a page of the target was used, whatever became of it
  module _ (passes : GroupPasses) (new : UnitTable) (uses : UsesPage middle.passes passes middle.units new lane to.unit) where
    pub copy-alike : AreLostAlike t.units new
    copy-alike = alike-joined t.units middle.units new (opened-alike was middle rg from.unit lane to.unit opened.target) (used-alike middle passes new lane to.unit filled.stands uses)

    pub copy-nexts : (unit : ℕ) → next_in new unit ≡ with_next (next_in t.units) to unit
    copy-nexts = copy-next was middle passes new rg from.unit lane to opened uses

  -- it is blank where what was not used is blank
  pub copy-free : (g : Geometry) (cells : List Cell) → g.unit_pages ≡ c.unit_pages → IsBlankBehind g cells t.units → slice_get cells (page_number g to) ≡ Some Blank
  copy-free g cells pages blank = let inside : to.page < g.unit_pages = omega (arith, to-page, pages) in (copy-blank was middle t.owners t.handles.classes rg from to lane g cells own.ready opened blank).blank to.page (omega arith) inside

  pub copy-fresh : to.page ≡ next_in t.units to.unit
  copy-fresh = opened.page ∙ open-next was middle rg from.unit lane to.unit opened.target

  -- it was copied
  module _ (written : Spot → Option Written) (at : Behind Page) (now : PageTables) (orderly : IsOrderly c p) (led : AreLed c p written at t) (owners : now.owners ≡ t.owners) (others : ChangesPasses t now rg) (adds : AddsCopy middle (relocation_at now rg) lane (record { from = from; to = to })) where
    abbrev copy : Copied
    copy = record { from = from; to = to }

    goes : IsNextCopy (passes_at t rg) (passes_at now rg) copy
    goes = due-next t.owners t.units middle.units now.units (passes_at t rg) middle.passes adds.passes (passes_at now rg) rg lane copy is_due opened adds.used (ap (λ (p : GroupPasses). p.pass) adds.copied)

    more : (k : ℕ) → HasCopyMore t now copy k
    unfolding HasCopyMore
    more k x among =
        ⊎_elim
        (λ (e : k ≡ rg).
        let here : Contains (copies_at now rg) x = subst (λ (n : ℕ). Contains (copies_at now n) x) e among in
        let are : copies_at now rg ≡ copies_at t rg ++ copy ∷ [] = ap (λ (o : Option Pass). option_map_or (λ (pass : Pass). pass.copies) o []) goes.under_way ∙ goes.copies in
        ⊎_elim
        (λ old. inl (subst (λ (n : ℕ). Contains (copies_at t n) x) (sym e) old))
        (λ (same : copy ≡ x). inr (sym same))
        (Contains-push_cases (copies_at t rg) copy x (subst (λ (xs : List Copied). Contains xs x) are here)))
        (λ (ne : k ≢ rg). inl (subst (λ (q : GroupPasses). Contains (copies_in q) x) (passes-other t now rg k others ne) among))
        (cases_eq k rg)

    pub copied-led : AreLed c (next c p (entries.Copied copy)) (written_after c p.state written (entries.Copied copy)) at now
    copied-led =
        let page = owned-written c p written at t led from owner owned in
        led-copied true c p copy written at t now page.page orderly (copy-follows true)
        (record { fresh = copy-fresh; owners = ap owner_at owners; next = copy-nexts adds.passes now.units adds.used })
        page.is
        (all-copied true c p copy at c.groups (passes_at t) (passes_at now) (copy-follows true)
        (λ k there ne. inl (ap (λ (q : GroupPasses). q.pass) (passes-other t now rg k others (λ e. ne (group ∙ sym e)))))
        (subst (λ (k : ℕ). IsNextCopy (passes_at t k) (passes_at now k) copy) (sym group) goes)
        (subst (λ (k : ℕ). copies_in (passes_at t k) ≡ [] → HasNoEarlier at from) (sym group) (first-early t.owners at (passes_at t rg) from led.owned own.ready.copied goes.same is_due.1))
        led.passes)
        more
        led
