-- What the move of a pass makes of the toil of its group, and of what the pass wants.
use Rattle.std.proofs.Common.{◌≡◌, ◌≢◌, ℕ, ◌||◌, Bool, true, false, List, [], ◌∷◌, Option, Some, None, refl, ap, sym, ◌∙◌, subst, arith, ⊎_elim}
use Rattle.std.specs.Prelude.{All, Contains, if◌then◌else◌}
use Rattle.std.proofs.lemmas.List.Elements.{All-contains_itself, All-head, All-tail, All-weaker}
use Rattle.fdp_base.specs.declared.entry.Copied.{Copied}
use Rattle.fdp_base.specs.declared.entry.Spot.{Spot}
use Rattle.fdp_owners.specs.declared.owner.Owner.{Owner}
use Rattle.fdp_owners.specs.OwnerTable.{owner_at, with_owner}
use Rattle.fdp_keeper.specs.fdp_pages.Joined.{AreJoined}
use Rattle.fdp_keeper.specs.fdp_pages.PageTables.{PageTables, copies_at, passes_at}
use Rattle.fdp_keeper.specs.fdp_pages.Steps.{Recounts}
use Rattle.fdp_passes.specs.Due.{HasNoLive, copies_in}
use Rattle.fdp_passes.specs.GroupPasses.{Pass}
use Rattle.fdp_rules.specs.Sites.{is_spot}
use Rattle.fdp_keeper.specs.fdp_trails.Moves.{AreMovable, owners_moved, with_moved}
use Rattle.fdp_keeper.specs.fdp_trails.Toil.{AreTallied, IsRelocated}
use Rattle.fdp_keeper.proofs.fdp_trails.Moving.{cases_owner, moved-none, moved-some, owner-there}
use Rattle.fdp_keeper.proofs.fdp_trails.Recounting.{moves-keep}
use Rattle.fdp_units.specs.declared.data_unit.DataUnit.{DataUnit}
use Rattle.fdp_units.specs.DataUnits.{is_closed, is_target}
use Rattle.fdp_units.specs.UnitTable.{IsGroup, toil_of}

-- ---- the toil

pub tallied-of : (t : PageTables) → AreJoined t → AreTallied t.units t.owners
tallied-of t h = record { pages = h.cut.owners.unit_pages; sound = h.sound; used = h.live.used; counted = h.live.counted }

-- each old page of a pass is one of its victim, each new one lies in a unit of the group that is a target or was one
record AreRelocated (t : PageTables) (rg : ℕ) (x : Copied) : Type 0 where
  from : IsRelocated t.units rg x.from
  to : IsRelocated t.units rg x.to

copy-relocated : (t : PageTables) (rg : ℕ) → AreJoined t → IsGroup t.units rg → (pass : Pass) → (passes_at t rg).pass ≡ Some pass → (x : Copied) → Contains pass.copies x → AreRelocated t rg x
copy-relocated t rg h group pass is x has =
    let own = h.groups rg group in
    let victim = own.ready.victim pass is in
    let lies = (own.copied pass is).lie x has in
    record {
      from = subst (λ (u : ℕ). IsRelocated t.units rg (record { unit = u; page = x.from.page })) (sym lies.victim) (record {
        is_unit = victim.is_unit;
        group = victim.group;
        page = lies.from_page;
        stands = ap (λ s. is_target s || is_closed s) victim.stands;
      });
      to = record { is_unit = lies.is_unit; group = lies.group; page = omega (arith, lies.used, lies.within); stands = lies.stands };
    }

-- the copies of a pass under way
copies-of : (t : PageTables) (rg : ℕ) (pass : Pass) → (passes_at t rg).pass ≡ Some pass → copies_at t rg ≡ pass.copies
copies-of t rg pass is = ap (λ (q : Option Pass). copies_in (record (passes_at t rg) { pass = q })) is

each-of : (P : Copied → Type 0) (xs ys : List Copied) → ys ≡ xs → ((x : Copied) → Contains xs x → P x) → All P ys
each-of P xs ys same each = subst (All P) (sym same) (All-weaker (Contains xs) P each xs (All-contains_itself xs))

-- the move of the copies of a pass leaves the toil of its group as it is
pub moved-toil : (old new : PageTables) (rg : ℕ) → AreJoined old → AreJoined new → IsGroup old.units rg → (pass : Pass) → (passes_at old rg).pass ≡ Some pass → AreMovable (owner_at old.owners) (copies_at old rg) → Recounts old.units new.units new.owners →
    owner_at new.owners ≡ owners_moved (owner_at old.owners) (copies_at old rg) → toil_of new.units rg ≡ toil_of old.units rg
moved-toil old new rg was is group pass under_way movable recounts owners =
    let same = copies-of old rg pass under_way in
    moves-keep old.units new.units old.owners new.owners rg (copies_at old rg) group (record {
      tallied = tallied-of old was;
      recounted = tallied-of new is;
      cut = recounts.cut;
      state = λ unit there. ap (λ (x : DataUnit). x.state) (recounts.kept unit);
      next = λ unit there. ap (λ (x : DataUnit). x.next) (recounts.kept unit);
      movable = movable;
      from = each-of (λ x. IsRelocated old.units rg x.from) pass.copies (copies_at old rg) same (λ x has. (copy-relocated old rg was group pass under_way x has).from);
      to = each-of (λ x. IsRelocated old.units rg x.to) pass.copies (copies_at old rg) same (λ x has. (copy-relocated old rg was group pass under_way x has).to);
      owners = owners;
    })

-- ---- the victim

cleared : (b : Bool) (o : Option Owner) → o ≡ None → (if b then None else o) ≡ None
cleared true o e = refl
cleared false o e = e

-- a page without an owner gets none by a copy to another unit
free-kept : (owners : Spot → Option Owner) (x : Copied) (spot : Spot) → spot.unit ≢ x.to.unit → owners spot ≡ None → with_moved owners x spot ≡ None
free-kept owners x spot apart free = ⊎_elim
    (λ none. ap (λ (f : Spot → Option Owner). f spot) (moved-none owners x none) ∙ free)
    (λ some.
    ap (λ (f : Spot → Option Owner). f spot) (moved-some owners x some.0 some.1)
    ∙ owner-there (with_owner owners x.from None) x.to (Some some.0) spot (λ same. apart (ap (λ (s : Spot). s.unit) same))
    ∙ cleared (is_spot spot x.from) (owners spot) free)
    (cases_owner (owners x.from))

pub free-moved : (owners : Spot → Option Owner) (copies : List Copied) (spot : Spot) → All (λ (x : Copied). spot.unit ≢ x.to.unit) copies → owners spot ≡ None → owners_moved owners copies spot ≡ None
free-moved owners [] spot apart free = free
free-moved owners (x ∷ xs) spot apart free =
    free-moved (with_moved owners x) xs spot (All-tail (λ (y : Copied). spot.unit ≢ y.to.unit) x xs apart) (free-kept owners x spot (All-head (λ (y : Copied). spot.unit ≢ y.to.unit) x xs apart) free)

-- behind the pages that a pass has looked at its victim has no live page after the move either
pub none-left : (old new : PageTables) (rg : ℕ) → AreJoined old → IsGroup old.units rg → (pass : Pass) → (passes_at old rg).pass ≡ Some pass → owner_at new.owners ≡ owners_moved (owner_at old.owners) (copies_at old rg) →
    HasNoLive old.owners pass.victim pass.next → HasNoLive new.owners pass.victim pass.next
none-left old new rg was group pass under_way owners none page behind =
    let spot : Spot = record { unit = pass.victim; page = page } in
    let apart : All (λ (x : Copied). spot.unit ≢ x.to.unit) (copies_at old rg) =
    each-of (λ x. spot.unit ≢ x.to.unit) pass.copies (copies_at old rg) (copies-of old rg pass under_way) (λ x has same. (((was.groups rg group).copied pass under_way).lie x has).apart (sym same)) in
    ap (λ (f : Spot → Option Owner). f spot) owners ∙ free-moved (owner_at old.owners) (copies_at old rg) spot apart (none page behind)
