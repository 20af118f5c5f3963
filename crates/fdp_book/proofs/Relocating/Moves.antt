-- One copy after another is moved.
use Rattle.std.proofs.Common.{◌≡◌, ℕ, zero, suc, ◌+◌, ◌≤◌, ◌<◌, List, [], ◌∷◌, ◌++◌, length, slice_get, Option, Some, None, refl, sym, ◌∙◌, ap, subst, arith, take, drop}
use Rattle.std.specs.Prelude.{Contains, IfSome, option_and_then, option_to_list}
use Rattle.std.specs.List.{cons_option}
use Rattle.std.specs.Option.{option_map_or}
use Rattle.std.proofs.lemmas.List.{drop_more, take-append-drop, take_more}
use Rattle.std.proofs.lemmas.List.Elements.{filter_map-append}
use Rattle.std.proofs.lemmas.List.Sums.{fold-append}
use Rattle.std.proofs.lemmas.Option.{get_or_from_slice_get, slice_get_within}
use Rattle.fdp_base.specs.declared.entry.BlockName.{BlockName}
use Rattle.fdp_base.specs.declared.entry.Copied.{Copied}
use Rattle.fdp_base.specs.declared.entry.Spot.{Spot}
use Rattle.fdp_book.specs.declared.tables.Tables.{Tables}
use Rattle.fdp_book.specs.Moving.{KeepsLead, MovesCopies, MovesCopy, NamesCopy}
use Rattle.fdp_book.proofs.Committing.PutPages.{changes-joined, changes-self}
use Rattle.fdp_flash.proofs.Lists.{slice_get_there}
use Rattle.fdp_owners.specs.declared.owner.Owner.{Owner}
use Rattle.fdp_owners.specs.OwnerTable.{owner_at}
use Rattle.fdp_readings.specs.fdp_pages.Joined.{AreJoined}
use Rattle.fdp_readings.specs.fdp_pages.PageTables.{PageTables, copies_at, passes_at}
use Rattle.fdp_readings.specs.fdp_pages.Steps.{moved}
use Rattle.fdp_passes.specs.GroupPasses.{GroupPasses, Pass}
use Rattle.fdp_readings.specs.fdp_trails.Moves.{AreMovable, name_at, name_of, names_of, owners_moved, with_moved}
use Rattle.fdp_readings.proofs.fdp_trails.Moving.{owners-kept}
use Rattle.fdp_units.specs.UnitTable.{IsGroup, IsUnit, group_in}

-- ---- a copy of the pass under way

-- both pages of a copy lie in the group, its new one is one of a unit
pub record LiesInGroup (t : PageTables) (rg : ℕ) (copy : Copied) : Type 0 where
  pub unit : IsUnit t.units copy.to.unit
  pub page : copy.to.page < t.units.unit_pages
  pub from : group_in t.units copy.from.unit ≡ rg
  pub to : group_in t.units copy.to.unit ≡ rg

-- where its old page is live its new one has no owner
pub record IsCopyAt (t : PageTables) (rg index : ℕ) : Type 0 where
  pub copy : Copied
  pub copy_is : slice_get (copies_at t rg) index ≡ Some copy
  pub free : (x : Owner) → owner_at t.owners copy.from ≡ Some x → owner_at t.owners copy.to ≡ None
  pub lies : LiesInGroup t rg copy

contained : (xs : List Copied) (index : ℕ) (x : Copied) → slice_get xs index ≡ Some x → Contains xs x
contained xs index x e = (index, slice_get_within xs index x e, get_or_from_slice_get xs index x x e)

pub copy-at : (t : PageTables) (rg index : ℕ) → AreJoined t → IsGroup t.units rg → index < length (copies_at t rg) → IsCopyAt t rg index
copy-at t rg index joined there low =
    let found = slice_get_there (copies_at t rg) index low in
    record {
      copy = found.0;
      copy_is = found.1;
      free = λ x owned. cases (passes_at t rg).pass refl (contained (copies_at t rg) index found.0 found.1) x owned;
      lies = within (passes_at t rg).pass refl (contained (copies_at t rg) index found.0 found.1);
    }
  where
    cases : (o : Option Pass) → (passes_at t rg).pass ≡ o → {copy : Copied} → Contains (option_map_or (λ (pass : Pass). pass.copies) o []) copy → (x : Owner) → owner_at t.owners copy.from ≡ Some x → owner_at t.owners copy.to ≡ None
    cases None e has x owned = absurd (omega (arith, has.1))
    cases (Some pass) e {copy} has x owned = (((joined.groups rg there).copied pass e).await copy x has owned).unowned

    within : (o : Option Pass) → (passes_at t rg).pass ≡ o → {copy : Copied} → Contains (option_map_or (λ (pass : Pass). pass.copies) o []) copy → LiesInGroup t rg copy
    within None e has = absurd (omega (arith, has.1))
    within (Some pass) e {copy} has =
        let groups = joined.groups rg there in
        let lie = (groups.copied pass e).lie copy has in
        record {
          unit = lie.is_unit;
          page = omega (arith, lie.used, lie.within);
          from = ap (group_in t.units) lie.victim ∙ (groups.ready.victim pass e).group;
          to = lie.group;
        }

-- what holds of the copy holds of it
pub of-copy : (t : PageTables) (rg index : ℕ) (k : IsCopyAt t rg index) (P : Copied → Type 0) → IfSome (slice_get (copies_at t rg) index) P → P k.copy
of-copy t rg index k P h = subst (λ (o : Option Copied). IfSome o P) k.copy_is h

-- ---- one after another

pub keeps-self : (t : Tables) → AreJoined t.pages → KeepsLead t t
keeps-self t joined = record {
  map = record { geometry = refl; sizes = refl; groups = λ nsid lba. refl };
  flights = record { rows = refl; going = λ queue. refl };
  pages = changes-self t.pages joined;
  leads = λ s h. h;
  rest = refl;
}

pub keeps-joined : (a b d : Tables) → KeepsLead a b → KeepsLead b d → KeepsLead a d
keeps-joined a b d h k = record {
  map = record { geometry = k.map.geometry ∙ h.map.geometry; sizes = k.map.sizes ∙ h.map.sizes; groups = λ nsid lba. k.map.groups nsid lba ∙ h.map.groups nsid lba };
  flights = record { rows = k.flights.rows ∙ h.flights.rows; going = λ queue. k.flights.going queue ∙ h.flights.going queue };
  pages = changes-joined a.pages b.pages d.pages h.pages k.pages;
  leads = λ s lead. k.leads s (h.leads s lead);
  rest = k.rest ∙ ap (λ (t : Tables). record t { map = d.map; flights = d.flights; pages = d.pages }) h.rest;
}

pub copies-stay : (old now : Tables) (rg : ℕ) → KeepsLead old now → copies_at now.pages rg ≡ copies_at old.pages rg
copies-stay old now rg h = ap (λ (ps : List GroupPasses). copies_at (record old.pages { passes = ps }) rg) h.pages.passes

module _ (owners : Spot → Option Owner) (copies : List Copied) (index : ℕ) (copy : Copied) (is : slice_get copies index ≡ Some copy) where
  low : index < length copies
  low = slice_get_within copies index copy is

  one-more : take (index + 1) copies ≡ take index copies ++ copy ∷ []
  one-more = take_more copies index copy low ∙ ap (λ (x : Copied). take index copies ++ x ∷ []) (get_or_from_slice_get copies index copy copy is)

  pub owners-more : owners_moved owners (take (index + 1) copies) ≡ with_moved (owners_moved owners (take index copies)) copy
  owners-more = ap (owners_moved owners) one-more ∙ fold-append with_moved owners (take index copies) (copy ∷ [])

  split : take index copies ++ copy ∷ drop (index + 1) copies ≡ copies
  split =
      ap (λ (x : Copied). take index copies ++ x ∷ drop (index + 1) copies) (sym (get_or_from_slice_get copies index copy copy is))
      ∙ ap (λ (xs : List Copied). take index copies ++ xs) (sym (drop_more copies index copy low))
      ∙ take-append-drop index copies

  -- when its turn comes the old page has the owner that it had
  pub owner-still : AreMovable owners copies → owners_moved owners (take index copies) copy.from ≡ owners copy.from
  owner-still m = owners-kept owners (take index copies) (drop (index + 1) copies) copy (subst (AreMovable owners) (sym split) m)

  pub names-more : names_of owners (take (index + 1) copies) ≡ names_of owners (take index copies) ++ option_to_list (name_at owners copy.from)
  names-more = ap (names_of owners) one-more ∙ filter_map-append (λ (x : Copied). name_at owners x.from) (take index copies) (copy ∷ []) ∙ ap (λ (l : List BlockName). names_of owners (take index copies) ++ l) (one (name_at owners copy.from))
    where
      one : (o : Option BlockName) → cons_option o [] ≡ option_to_list o
      one None = refl
      one (Some b) = refl

few-more : (o : Option BlockName) (l : List BlockName) (n : ℕ) → length l ≤ n → length (cons_option o l) ≤ n + 1
few-more None l n h = omega (arith, h)
few-more (Some b) l n h = omega (arith, h)

pub names-few : (owners : Spot → Option Owner) (copies : List Copied) → length (names_of owners copies) ≤ length copies
names-few owners [] = omega arith
names-few owners (x ∷ xs) = let h = few-more (name_at owners x.from) (names_of owners xs) (length xs) (names-few owners xs) in omega (arith, h)

-- ---- the copies of a pass, up to one

pub record IsMovedTo (old now : Tables) (rg index : ℕ) (names : List BlockName) : Type 0 where
  pub moves : MovesCopies old now rg index
  pub names_are : names ≡ names_of (owner_at old.pages.owners) (take index (copies_at old.pages rg))

pub moved-first : (t : Tables) (rg : ℕ) (names : List BlockName) → AreJoined t.pages → names ≡ [] → IsMovedTo t t rg 0 names
moved-first t rg names joined empty = record { moves = record { owners = refl; kept = keeps-self t joined }; names_are = empty }

pub moved-next : (old now new : Tables) (rg index : ℕ) (names more : List BlockName) → AreMovable (owner_at old.pages.owners) (copies_at old.pages rg) → index < length (copies_at old.pages rg) → IsMovedTo old now rg index names → MovesCopy now new rg index → NamesCopy now rg index names more → IsMovedTo old new rg (index + 1) more
moved-next old now new rg index names more movable within h moves named =
    let found = slice_get_there (copies_at old.pages rg) index within in
    let copy : Copied = found.0 in
    let here : slice_get (copies_at now.pages rg) index ≡ Some copy = ap (λ (xs : List Copied). slice_get xs index) (copies-stay old now rg h.moves.kept) ∙ found.1 in
    let owners = owner_at old.pages.owners in
    let still : owner_at now.pages.owners copy.from ≡ owners copy.from = ap (λ (f : Spot → Option Owner). f copy.from) h.moves.owners ∙ owner-still owners (copies_at old.pages rg) index copy found.1 movable in
    let own : owner_at new.pages.owners ≡ moved (owner_at now.pages.owners) copy = subst (λ (o : Option Copied). IfSome o (λ (x : Copied). owner_at new.pages.owners ≡ moved (owner_at now.pages.owners) x)) here moves.owners in
    let listed : more ≡ names ++ option_to_list (name_at (owner_at now.pages.owners) copy.from) = subst (λ (o : Option Copied). IfSome o (λ (x : Copied). more ≡ names ++ option_to_list (name_at (owner_at now.pages.owners) x.from))) here named in
    record {
      moves = record {
        owners = own ∙ ap (λ (f : Spot → Option Owner). with_moved f copy) h.moves.owners ∙ sym (owners-more owners (copies_at old.pages rg) index copy found.1);
        kept = keeps-joined old now new h.moves.kept moves.kept;
      };
      names_are = listed
          ∙ ap (λ (l : List BlockName). l ++ option_to_list (name_at (owner_at now.pages.owners) copy.from)) h.names_are
          ∙ ap (λ (o : Option Owner). names_of owners (take index (copies_at old.pages rg)) ++ option_to_list (option_and_then name_of o)) still
          ∙ sym (names-more owners (copies_at old.pages rg) index copy found.1);
    }

pub names-below : (old now : Tables) (rg index : ℕ) (names : List BlockName) → IsMovedTo old now rg index names → length names ≤ index
names-below old now rg index names h =
    let few = names-few (owner_at old.pages.owners) (take index (copies_at old.pages rg)) in
    let same : length names ≡ length (names_of (owner_at old.pages.owners) (take index (copies_at old.pages rg))) = ap length h.names_are in
    let most : length (take index (copies_at old.pages rg)) ≤ index = take-few index (copies_at old.pages rg) in
    omega (arith, few, same, most)
  where
    take-few : (n : ℕ) (xs : List Copied) → length (take n xs) ≤ n
    take-few zero xs = omega arith
    take-few (suc n) [] = omega arith
    take-few (suc n) (x ∷ xs) = let rest = take-few n xs in omega (arith, rest)
