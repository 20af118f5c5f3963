-- What the steps of relocation leave of owners and pointers.
use Rattle.std.proofs.Common.{◌≡◌, ◌≢◌, ℕ, ◌≤◌, ◌<◌, Bool, List, Option, Some, None, refl, sym, ◌∙◌, ap, subst, arith, ◌⊎◌, ⊎_elim, eq-eqb, ne_eqb}
use Rattle.std.specs.Prelude.{Contains, if◌then◌else◌}
use Rattle.std.proofs.lemmas.Bool.{cases_eq}
use Rattle.fdp_base.specs.declared.config.DriveConfig.{DriveConfig}
use Rattle.fdp_base.specs.declared.entry.BlockName.{BlockName}
use Rattle.fdp_base.specs.declared.entry.Copied.{Copied}
use Rattle.fdp_base.specs.declared.entry.Entry.{Entry}
use Rattle.fdp_base.specs.declared.entry.Entry.TheVariants as entries
use Rattle.fdp_base.specs.declared.entry.Spot.{Spot}
use Rattle.fdp_history.specs.Orderly.{IsOrderly}
use Rattle.fdp_locations.specs.Located.{AreAlike, AreLed, AreNamed, IsAlike, next_in}
use Rattle.fdp_locations.specs.Written.{IsWritten, Written, with_written, without_unit, written_after}
use Rattle.fdp_locations.proofs.Handled.{handled-moved, handled-renamed}
use Rattle.fdp_locations.proofs.Grouped.{StayInGroups, units-moved, units-next}
use Rattle.fdp_locations.proofs.Kept.{holds-same, led-still, named-kept}
use Rattle.fdp_locations.proofs.Placed.{alike-written, written-below, written-kept, written-same}
use Rattle.fdp_owners.specs.declared.owner.Owner.{Owner}
use Rattle.fdp_owners.specs.Owned.{AreOwners}
use Rattle.fdp_owners.specs.OwnerTable.{owner_at}
use Rattle.fdp_pages.specs.PageTables.{PageTables, copies_at, passes_at}
use Rattle.fdp_pointers.specs.Contents.{PageContent, content_at}
use Rattle.fdp_pointers.specs.Facts.{Carries, IsFree, Page, put_at, with_erased, with_next}
use Rattle.fdp_pointers.specs.Pointers.{Behind, Pointer, Pointer.of_flight, moved}
use Rattle.fdp_pointers.proofs.Carrying.{carries-kept, carries-moved}
use Rattle.fdp_pointers.proofs.Renaming.{moved-from}
use Rattle.fdp_pointers.proofs.Steps.{contents-renamed}
use Rattle.fdp_pointers.proofs.Tables.{table-copied, table-erased, table-moved, table-raised}
use Rattle.fdp_rules.specs.Change.{after, changed_by}
use Rattle.fdp_rules.specs.Next.{next}
use Rattle.fdp_rules.specs.PlainState.{Going, PlainState}
use Rattle.fdp_rules.specs.Point.{Point}
use Rattle.fdp_rules.specs.Sites.{moved_by, pass_in}
use Rattle.fdp_rules.specs.Step.{Follows}
use Rattle.fdp_trails.specs.Followed.{IsPassOf}

never : {X : Type 0} {x : X} → None ≡ Some x → ⊥
never e = cc

-- ---- going writes stay

copied-going : (c : DriveConfig) (p : Point) (copy : Copied) → (next c p (entries.Copied copy)).state.going ≡ p.state.going
unfolding next after changed_by
copied-going c p copy = refl

moved-going : (c : DriveConfig) (p : Point) (rg : ℕ) (blocks : List BlockName) → (next c p (entries.Moved (record { rg = rg; blocks = blocks }))).state.going ≡ p.state.going
unfolding next after changed_by
moved-going c p rg blocks = refl

erased-going : (c : DriveConfig) (p : Point) (unit : ℕ) → (next c p (entries.Erased (record { unit = unit }))).state.going ≡ p.state.going
unfolding next after changed_by
erased-going c p unit = refl

named-same : (s now : PlainState) (at : Behind Page) → now.going ≡ s.going → AreNamed s at → AreNamed now at
named-same s now at same h = named-kept s now at at (λ queue index g y going there. (g, sym (ap (λ (f : ℕ → Option Going). f queue) same) ∙ going, refl, there)) h

-- ---- a page is copied

-- the copy goes to the next page of its unit; owners stay
pub record IsNewCopy (t now : PageTables) (copy : Copied) : Type 0 where
  pub fresh : copy.to.page ≡ next_in t.units copy.to.unit
  pub owners : owner_at now.owners ≡ owner_at t.owners
  pub next : (unit : ℕ) → next_in now.units unit ≡ with_next (next_in t.units) copy.to unit

-- the copies of each group are those of before, or with this copy more
unfoldable pub HasCopyMore : PageTables → PageTables → Copied → ℕ → Type 0
HasCopyMore t now copy rg = (x : Copied) → Contains (copies_at now rg) x → Contains (copies_at t rg) x ⊎ (x ≡ copy)

pub led-copied : (told : Bool) (c : DriveConfig) (p : Point) (copy : Copied) (written : Spot → Option Written) (at : Behind Page) (t now : PageTables) (page : Written) →
    IsOrderly c p → Follows told c p (entries.Copied copy) → IsNewCopy t now copy → written copy.from ≡ Some page →
    ((rg : ℕ) → rg < c.groups → IsPassOf at (next c p (entries.Copied copy)).trail rg (passes_at now rg)) →
    ((rg : ℕ) → HasCopyMore t now copy rg) →
    AreLed c p written at t → AreLed c (next c p (entries.Copied copy)) (written_after c p.state written (entries.Copied copy)) at now
unfolding HasCopyMore
led-copied told c p copy written at t now page orderly follows new holds passes copies h =
    let q : Point = next c p (entries.Copied copy) in
    let pages : ℕ → ℕ = next_in t.units in
    let x : Option Written = written copy.from in
    record {
      table = table-raised c q (with_next pages copy.to) (next_in now.units) at (λ unit. omega (arith, new.next unit)) (table-copied told c p copy.from copy.to pages at orderly.state follows new.fresh h.table);
      owned = subst (λ (o : Spot → Option Owner). AreOwners o at) (sym new.owners) h.owned;
      named = named-same p.state q.state at (copied-going c p copy) h.named;
      handled = handled-renamed c p (entries.Copied copy) at h.handled;
      units = units-next told c p (entries.Copied copy) pages at orderly.state follows h.table h.units;
      holds = subst (λ (k : Behind PageContent). Carries (IsWritten (with_written written copy.to x)) k at) (sym (contents-renamed told c p (entries.Copied copy) orderly.state follows refl))
          (carries-kept (IsWritten written) (IsWritten (with_written written copy.to x)) (content_at c p.state) at
          (λ r z k there is says. written-kept pages written copy.to z.spot x new.fresh (h.table.below r z there) ∙ says) h.holds);
      below = λ z k is. let low : z.page < with_next pages copy.to z.unit = written-below pages written copy.to x new.fresh h.below z k is in omega (arith, low, new.next z.unit);
      passes = passes;
      copies = λ rg group y among.
          ⊎_elim
          (λ before. alike-written pages written copy.to x (copies_at t rg) new.fresh h.below (h.copies rg group) y before)
          (λ (same : y ≡ copy). subst (IsAlike (with_written written copy.to x)) (sym same)
          (record {
            page = page;
            old = written-kept pages written copy.to copy.from x new.fresh (h.below copy.from page holds) ∙ holds;
            new = written-same written copy.to x ∙ holds;
          }))
          (copies rg y among);
    }

-- ---- pages are moved

-- each copy of the pass that is moved holds what its old page holds, and lies in its group
pub led-moved : (told : Bool) (c : DriveConfig) (p : Point) (rg : ℕ) (blocks : List BlockName) (written : Spot → Option Written) (at : Behind Page) (t now : PageTables) →
    IsOrderly c p → Follows told c p (entries.Moved (record { rg = rg; blocks = blocks })) →
    AreOwners (owner_at now.owners) (moved (put_at (moved_by (pass_in p.trail rg))) at) → ((unit : ℕ) → next_in now.units unit ≡ next_in t.units unit) →
    ((q : Pointer) (y : Page) → at q ≡ Some y → written (moved_by (pass_in p.trail rg) y.spot) ≡ written y.spot) → StayInGroups c (moved_by (pass_in p.trail rg)) at →
    ((k : ℕ) → k < c.groups → IsPassOf (moved (put_at (moved_by (pass_in p.trail rg))) at) (next c p (entries.Moved (record { rg = rg; blocks = blocks }))).trail k (passes_at now k)) →
    ((k : ℕ) (x : Copied) → Contains (copies_at now k) x → Contains (copies_at t k) x) →
    AreLed c p written at t → AreLed c (next c p (entries.Moved (record { rg = rg; blocks = blocks }))) written (moved (put_at (moved_by (pass_in p.trail rg))) at) now
led-moved told c p rg blocks written at t now orderly follows owned next_is holds within passes copies h =
    let e : Entry = entries.Moved (record { rg = rg; blocks = blocks }) in
    let q : Point = next c p e in
    let f : Spot → Spot = moved_by (pass_in p.trail rg) in
    record {
      table = table-raised c q (next_in t.units) (next_in now.units) (moved (put_at f) at) (λ unit. omega (arith, next_is unit)) (table-moved told c p rg blocks (next_in t.units) at orderly follows h.table);
      owned = owned;
      named = λ queue index g w y going write there.
          let was = moved-from f (at (of_flight queue index)) y there in
          let names = h.named queue index g w was.0 (sym (ap (λ (k : ℕ → Option Going). k queue) (moved-going c p rg blocks)) ∙ going) write was.1 in
          (ap (λ (z : Page). z.spare.nsid) was.2 ∙ names.0, ap (λ (z : Page). z.spare.lba) was.2 ∙ names.1);
      handled = handled-moved q.state f at (handled-renamed c p e at h.handled);
      units = units-moved c q.state.generation f at within (units-next told c p e (next_in t.units) at orderly.state follows h.table h.units);
      holds = subst (λ (k : Behind PageContent). Carries (IsWritten written) k (moved (put_at f) at)) (sym (contents-renamed told c p e orderly.state follows refl))
          (carries-moved (IsWritten written) f (content_at c p.state) at (λ r y x there content says. holds r y there ∙ says) h.holds);
      below = λ z k is. let low : z.page < next_in t.units z.unit = h.below z k is in omega (arith, low, next_is z.unit);
      passes = passes;
      copies = λ k group x among. h.copies k group x (copies k x among);
    }

-- ---- a unit is erased, or was to be

without-other : (written : Spot → Option Written) (unit : ℕ) (at : Spot) → at.unit ≢ unit → without_unit written unit at ≡ written at
without-other written unit at ne = ap (λ (b : Bool). if b then None else written at) (ne_eqb at.unit unit ne)

pub without-before : (written : Spot → Option Written) (unit : ℕ) (at : Spot) (x : Written) → without_unit written unit at ≡ Some x → (at.unit ≢ unit) × (written at ≡ Some x)
without-before written unit at x e =
    ⊎_elim
    (λ (same : at.unit ≡ unit). absurd (never (sym (ap (λ (b : Bool). if b then None else written at) (eq-eqb at.unit unit same)) ∙ e)))
    (λ (ne : at.unit ≢ unit). (ne, sym (without-other written unit at ne) ∙ e))
    (cases_eq at.unit unit)

-- copies that have no page in the unit
unfoldable pub ArePassedBy : ℕ → List Copied → Type 0
ArePassedBy unit copies = (x : Copied) → Contains copies x → (x.from.unit ≢ unit) × (x.to.unit ≢ unit)

alike-without : (written : Spot → Option Written) (unit : ℕ) (copies : List Copied) → ArePassedBy unit copies → AreAlike written copies → AreAlike (without_unit written unit) copies
unfolding ArePassedBy
alike-without written unit copies apart h x among =
    let a = h x among in
    let ne = apart x among in
    record { page = a.page; old = without-other written unit x.from ne.0 ∙ a.old; new = without-other written unit x.to ne.1 ∙ a.new }

pub led-erased : (told : Bool) (c : DriveConfig) (p : Point) (unit : ℕ) (written : Spot → Option Written) (at : Behind Page) (t now : PageTables) →
    IsOrderly c p → Follows told c p (entries.Erased (record { unit = unit })) → IsFree unit at →
    owner_at now.owners ≡ owner_at t.owners → ((k : ℕ) → next_in now.units k ≡ with_erased (next_in t.units) unit k) →
    ((rg : ℕ) → rg < c.groups → IsPassOf at (next c p (entries.Erased (record { unit = unit }))).trail rg (passes_at now rg)) →
    ((rg : ℕ) (x : Copied) → Contains (copies_at now rg) x → Contains (copies_at t rg) x) → ((rg : ℕ) → rg < c.groups → ArePassedBy unit (copies_at now rg)) →
    AreLed c p written at t → AreLed c (next c p (entries.Erased (record { unit = unit }))) (written_after c p.state written (entries.Erased (record { unit = unit }))) at now
led-erased told c p unit written at t now orderly follows free owners next_is passes fewer apart h =
    let e : Entry = entries.Erased (record { unit = unit }) in
    let q : Point = next c p e in
    let pages : ℕ → ℕ = next_in t.units in
    record {
      table = table-raised c q (with_erased pages unit) (next_in now.units) at (λ k. omega (arith, next_is k)) (table-erased told c p unit pages at orderly follows free h.table);
      owned = subst (λ (o : Spot → Option Owner). AreOwners o at) (sym owners) h.owned;
      named = named-same p.state q.state at (erased-going c p unit) h.named;
      handled = handled-renamed c p e at h.handled;
      units = units-next told c p e pages at orderly.state follows h.table h.units;
      holds = subst (λ (k : Behind PageContent). Carries (IsWritten (without_unit written unit)) k at) (sym (contents-renamed told c p e orderly.state follows refl))
          (carries-kept (IsWritten written) (IsWritten (without_unit written unit)) (content_at c p.state) at
          (λ r z k there is says. without-other written unit z.spot (free r z there) ∙ says) h.holds);
      below = λ z k is.
          let was = without-before written unit z k is in
          let low : z.page < pages z.unit = h.below z k was.1 in
          let same : with_erased pages unit z.unit ≡ pages z.unit = ap (λ (b : Bool). if b then 0 else pages z.unit) (ne_eqb z.unit unit was.0) in
          omega (arith, low, same, next_is z.unit);
      passes = passes;
      copies = λ rg group. alike-without written unit (copies_at now rg) (apart rg group) (λ x among. h.copies rg group x (fewer rg x among));
    }

pub led-retired : (told : Bool) (c : DriveConfig) (p : Point) (unit : ℕ) (written : Spot → Option Written) (at : Behind Page) (t now : PageTables) →
    IsOrderly c p → Follows told c p (entries.Retired (record { unit = unit })) → IsFree unit at →
    owner_at now.owners ≡ owner_at t.owners → ((k : ℕ) → next_in now.units k ≡ next_in t.units k) →
    ((rg : ℕ) → rg < c.groups → IsPassOf at (next c p (entries.Retired (record { unit = unit }))).trail rg (passes_at now rg)) →
    ((rg : ℕ) (x : Copied) → Contains (copies_at now rg) x → Contains (copies_at t rg) x) → ((rg : ℕ) → rg < c.groups → ArePassedBy unit (copies_at now rg)) →
    AreLed c p written at t → AreLed c (next c p (entries.Retired (record { unit = unit }))) (written_after c p.state written (entries.Retired (record { unit = unit }))) at now
unfolding next after changed_by
led-retired told c p unit written at t now orderly follows free owners next_is passes fewer apart h =
    led-still told c p (entries.Retired (record { unit = unit })) written (without_unit written unit) at t now orderly.state follows refl
    (record { before = λ spot x is. (without-before written unit spot x is).1; pointed = λ r y there. without-other written unit y.spot (free r y there) })
    (subst (λ (o : Spot → Option Owner). AreOwners o at) (sym owners) h.owned)
    (λ queue index g y going there. (g, going, refl, there))
    (λ k. omega (arith, next_is k))
    passes
    (λ rg group. alike-without written unit (copies_at now rg) (apart rg group) (λ x among. h.copies rg group x (fewer rg x among)))
    h

-- ---- a unit is set aside, or none is free

-- owners and units' next pages stay, and no copy comes
pub record IsLeft (t now : PageTables) : Type 0 where
  pub owners : owner_at now.owners ≡ owner_at t.owners
  pub next : (unit : ℕ) → next_in t.units unit ≤ next_in now.units unit
  pub fewer : (rg : ℕ) (x : Copied) → Contains (copies_at now rg) x → Contains (copies_at t rg) x

pub led-aside : (told : Bool) (c : DriveConfig) (p : Point) (unit : ℕ) (written : Spot → Option Written) (at : Behind Page) (t now : PageTables) →
    IsOrderly c p → Follows told c p (entries.Aside (record { unit = unit })) → IsLeft t now →
    ((rg : ℕ) → rg < c.groups → IsPassOf at (next c p (entries.Aside (record { unit = unit }))).trail rg (passes_at now rg)) →
    AreLed c p written at t → AreLed c (next c p (entries.Aside (record { unit = unit }))) written at now
unfolding next after changed_by
led-aside told c p unit written at t now orderly follows left passes h =
    led-still told c p (entries.Aside (record { unit = unit })) written written at t now orderly.state follows refl (holds-same written at)
    (subst (λ (o : Spot → Option Owner). AreOwners o at) (sym left.owners) h.owned)
    (λ queue index g y going there. (g, going, refl, there))
    left.next passes (λ rg group x among. h.copies rg group x (left.fewer rg x among)) h

pub led-worn : (told : Bool) (c : DriveConfig) (p : Point) (rg : ℕ) (written : Spot → Option Written) (at : Behind Page) (t now : PageTables) →
    IsOrderly c p → Follows told c p (entries.Worn (record { rg = rg })) → IsLeft t now →
    ((k : ℕ) → k < c.groups → IsPassOf at (next c p (entries.Worn (record { rg = rg }))).trail k (passes_at now k)) →
    AreLed c p written at t → AreLed c (next c p (entries.Worn (record { rg = rg }))) written at now
unfolding next after changed_by
led-worn told c p rg written at t now orderly follows left passes h =
    led-still told c p (entries.Worn (record { rg = rg })) written written at t now orderly.state follows refl (holds-same written at)
    (subst (λ (o : Spot → Option Owner). AreOwners o at) (sym left.owners) h.owned)
    (λ queue index g y going there. (g, going, refl, there))
    left.next passes (λ k group x among. h.copies k group x (left.fewer k x among)) h

pub led-shut : (told : Bool) (c : DriveConfig) (p : Point) (rg ruh : ℕ) (written : Spot → Option Written) (at : Behind Page) (t now : PageTables) →
    IsOrderly c p → Follows told c p (entries.Shut (record { rg = rg; ruh = ruh })) → IsLeft t now →
    ((k : ℕ) → k < c.groups → IsPassOf at (next c p (entries.Shut (record { rg = rg; ruh = ruh }))).trail k (passes_at now k)) →
    AreLed c p written at t → AreLed c (next c p (entries.Shut (record { rg = rg; ruh = ruh }))) written at now
unfolding next after changed_by
led-shut told c p rg ruh written at t now orderly follows left passes h =
    led-still told c p (entries.Shut (record { rg = rg; ruh = ruh })) written written at t now orderly.state follows refl (holds-same written at)
    (subst (λ (o : Spot → Option Owner). AreOwners o at) (sym left.owners) h.owned)
    (λ queue index g y going there. (g, going, refl, there))
    left.next passes (λ k group x among. h.copies k group x (left.fewer k x among)) h

-- ---- no entry: a page is skipped, or a pass is given up

pub led-skipped : (c : DriveConfig) (p : Point) (written : Spot → Option Written) (at : Behind Page) (t now : PageTables) → IsLeft t now → ((rg : ℕ) → rg < c.groups → IsPassOf at p.trail rg (passes_at now rg)) → AreLed c p written at t → AreLed c p written at now
led-skipped c p written at t now left passes h = record {
  table = table-raised c p (next_in t.units) (next_in now.units) at left.next h.table;
  owned = subst (λ (o : Spot → Option Owner). AreOwners o at) (sym left.owners) h.owned;
  named = h.named;
  handled = h.handled;
  units = h.units;
  holds = h.holds;
  below = λ z k is. let low : z.page < next_in t.units z.unit = h.below z k is in omega (arith, low, left.next z.unit);
  passes = passes;
  copies = λ rg group x among. h.copies rg group x (left.fewer rg x among);
}
