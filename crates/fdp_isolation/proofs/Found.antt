-- What is kept apart when an image was opened whose data stands apart.
use Rattle.std.proofs.Common.{◌≡◌, ℕ, zero, suc, Bool, true, false, List, [], ◌∷◌, Option, Some, None, find, refl, sym, ◌∙◌, ap, subst, arith, inl, inr, ⊎_elim, slice_get, eq-eqb}
use Rattle.std.specs.Prelude.{◌==◌, Contains, IsTrue, if◌then◌else◌, not, option_map, slice_index_or}
use Rattle.std.specs.List.{list_any}
use Rattle.std.specs.Option.{option_map_or}
use Rattle.fdp_base.specs.declared.config.Class.{Class}
use Rattle.fdp_base.specs.declared.config.Class.TheVariants.{Initial, Persistent}
use Rattle.fdp_base.specs.declared.config.DriveConfig.{DriveConfig}
use Rattle.fdp_base.specs.declared.entry.Entry.{Entry}
use Rattle.fdp_base.specs.declared.entry.Entry.TheVariants as entries
use Rattle.fdp_base.specs.declared.entry.Spot.{Spot}
use Rattle.fdp_base.specs.declared.spare.DataSpare.{DataSpare}
use Rattle.fdp_base.specs.Config.{IsValidConfig}
use Rattle.fdp_base.specs.EntryKinds.{puts_into}
use Rattle.fdp_base.specs.Numbers.{numbers_below}
use Rattle.fdp_base.specs.Placement.{classes_of, geometry_of}
use Rattle.fdp_book.specs.Book.{BookSeen}
use Rattle.fdp_book.specs.Reopened.{IsReopened}
use Rattle.fdp_flash.specs.declared.cell.Cell.{Cell}
use Rattle.fdp_flash.specs.Layout.{page_number}
use Rattle.fdp_book.specs.fdp_found.Finding.{block_found, found_blocks, found_in}
use Rattle.fdp_book.proofs.fdp_found.Blocks.{blocks-find, blocks-stand, found-read}
use Rattle.fdp_book.proofs.fdp_found.Leading.{stands-on}
use Rattle.fdp_book.specs.fdp_found.Opened.{AreOpened, owner_found}
use Rattle.fdp_book.proofs.fdp_found.Paging.{IsHeld, all-numbers, any-number, held-of, number-back, spot-back}
use Rattle.fdp_book.proofs.fdp_found.Pointing.{IsOwnerOf, owner-names, owner-of}
use Rattle.fdp_book.proofs.fdp_found.Reading.{Names, page-lies}
use Rattle.fdp_book.proofs.fdp_found.Stating.{lie-within}
use Rattle.fdp_image.specs.CheckpointFields.{is_persistent}
use Rattle.fdp_image.specs.Isolation.{EachPage, IsGrouped, IsIsolated, IsIsolatedImage, keeps_apart}
use Rattle.fdp_image.specs.Outline.{state_with}
use Rattle.fdp_image.specs.Reading.{Reading, has_page, size_in, spot_of}
use Rattle.fdp_image.specs.Roomy.{holds_block, is_blank_unit, is_unused, page_in}
use Rattle.fdp_image.specs.Saving.{SameDataPages}
use Rattle.fdp_image.specs.Valid.{IsValid, state_in}
use Rattle.fdp_isolation.specs.Alone.{AreLeftAlone, gets_none}
use Rattle.fdp_isolation.specs.Begun.{OpenedApart}
use Rattle.fdp_isolation.specs.Isolated.{before_erase, since_setting}
use Rattle.fdp_isolation.specs.Laned.{AreLaned, GoOneWay, IsKeptApart, IsLaned, IsTaken, lane_by}
use Rattle.fdp_isolation.proofs.Alike.{laned-by}
use Rattle.fdp_isolation.proofs.Entries.{put-whole}
use Rattle.fdp_isolation.proofs.Saved.{alone-saved, laned-saved}
use Rattle.fdp_owners.specs.declared.owner.Owner.{Owner}
use Rattle.fdp_owners.specs.OwnerTable.{owner_at}
use Rattle.fdp_book.specs.fdp_pages.PageTables.{PageTables}
use Rattle.fdp_passes.specs.GroupPasses.{lane_of}
use Rattle.fdp_pointers.specs.Facts.{HasOnlyPlaced}
use Rattle.fdp_pointers.proofs.Rows.{not-true}
use Rattle.fdp_rules.specs.Change.{after, changed_by}
use Rattle.fdp_rules.specs.History.{Found, FoundBlock, first_state, found_block, point_of, state_of}
use Rattle.fdp_rules.specs.PlainState.{Block, PageName, Reference}
use Rattle.fdp_rules.specs.Room.{namespace_ids}
use Rattle.fdp_rules.specs.Sites.{group_of}
use Rattle.fdp_rules.specs.Step.{IsDataUnit, IsPage}

-- what a search finds is among what it searches
find-contains : {X : Type 0} (test : X → Bool) (xs : List X) (x : X) → find test xs ≡ Some x → Contains xs x
find-contains test [] x e = absurd cc
find-contains {X} test (y ∷ ys) x e = of (test y) (find-contains test ys x) e where
  of : (b : Bool) → (find test ys ≡ Some x → Contains ys x) → (if b then Some y else find test ys) ≡ Some x → Contains (y ∷ ys) x
  of true more same = (zero, omega arith, cc)
  of false more rest = let has = more rest in (suc has.0, omega (arith, has.1), has.2)

-- ---- handles and their ways

abbrev alone : List Class → ℕ → Bool
alone classes ruh = option_map_or is_persistent (slice_get classes ruh) false

alone-is : (classes : List Class) (k : ℕ) → alone classes k ≡ is_persistent (slice_index_or classes k Initial)
alone-is [] k = refl
alone-is (x ∷ xs) zero = refl
alone-is (x ∷ xs) (suc k) = alone-is xs k

-- the data of two handles goes one way, where each that is persistently isolated is the other
same-way : (classes : List Class) (a b : ℕ) → (alone classes a ≡ true → b ≡ a) → (alone classes b ≡ true → a ≡ b) → lane_of (slice_index_or classes a Initial) a ≡ lane_of (slice_index_or classes b Initial) b
same-way classes a b of_a of_b = both (slice_index_or classes a Initial) (slice_index_or classes b Initial) refl refl where
  both : (x y : Class) → slice_index_or classes a Initial ≡ x → slice_index_or classes b Initial ≡ y → lane_of (slice_index_or classes a Initial) a ≡ lane_of (slice_index_or classes b Initial) b
  both Persistent y is at = ap (λ k. lane_of (slice_index_or classes k Initial) k) (sym (of_a (alone-is classes a ∙ ap is_persistent is)))
  both Initial Initial is at = ap (λ (x : Class). lane_of x a) is ∙ sym (ap (λ (x : Class). lane_of x b) at)
  both Initial Persistent is at = ap (λ k. lane_of (slice_index_or classes k Initial) k) (of_b (alone-is classes b ∙ ap is_persistent at))

-- ---- a unit in which a block stands

module _ (c : DriveConfig) (cells : List Cell) (r : Reading) (config : IsValidConfig c) (valid : IsValid c cells r) where
  -- the page of an owner
  record IsOwned (spot : Spot) (x : Owner) : Type 0 where
    pub of : IsOwnerOf c cells r spot x
    pub held : IsHeld c cells spot of.page
    pub spare : x.spare ≡ of.page.spare
    pub names : Names c r x.spare.nsid x.spare.lba (page_number (geometry_of c) spot) x.spare

  owned-of : (spot : Spot) (x : Owner) → owner_found c cells r spot ≡ Some x → IsOwned spot x
  owned-of spot x e =
      let a = owner-of c cells r spot x e in
      record { of = a; held = held-of c cells spot a.page a.held; spare = ap (λ (z : Owner). z.spare) a.is; names = owner-names c cells r valid config spot x e }

  owned-group : (spot : Spot) (x : Owner) → IsOwned spot x → x.spare.rg ≡ group_of c spot.unit
  owned-group spot x o = o.names.group ∙ ap (λ (s : Spot). group_of c s.unit) (spot-back c spot o.held.page.1)

  -- a page where a block stands holds one, so its unit is used
  holds-at : (nsid lba page : ℕ) → r.pages nsid lba ≡ Some page → holds_block c r (spot_of c page) ≡ true
  unfolding namespace_ids
  holds-at nsid lba page there =
      let n : ℕ = page_number (geometry_of c) (spot_of c page) in
      let within = lie-within c cells r valid in
      let id = within.ids nsid lba page there in
      let has : has_page r n nsid lba ≡ true = ap (λ (p : Option ℕ). option_map_or (λ k. k == n) p false) there ∙ eq-eqb page n (sym (number-back c page)) in
      any-number (λ m. list_any (has_page r n m) (numbers_below (size_in r m))) 1 16 nsid id.0 (omega (arith, id.1))
      (any-number (has_page r n nsid) 0 (size_in r nsid) lba (omega arith) (omega (arith, within.addresses nsid lba page there)) has)

  data-page : (nsid lba page : ℕ) → r.pages nsid lba ≡ Some page → IsPage c (spot_of c page)
  data-page nsid lba page there = page-lies c page config (valid.blocks nsid lba page there).data_page

  pub used-at : (nsid lba page : ℕ) → r.pages nsid lba ≡ Some page → is_unused c r (spot_of c page).unit ≡ false
  used-at nsid lba page there = not-true (is_unused c r (spot_of c page).unit) (λ unused.
      let none = all-numbers (λ k. not (holds_block c r (page_in (spot_of c page).unit k))) 0 c.unit_pages unused (spot_of c page).page (omega arith) (omega (arith, (data-page nsid lba page there).1)) in
      no (ap not (sym (holds-at nsid lba page there)) ∙ none)) where
        no : false ≡ true → ⊥
        no e = cc

  -- the unit of each block is isolated
  abbrev IsolatesBlocks : Type 0
  IsolatesBlocks = (nsid lba page : ℕ) → r.pages nsid lba ≡ Some page → IsIsolated c (state_in c cells r) cells (spot_of c page).unit

  isolated-blocks : IsIsolatedImage c cells r → IsolatesBlocks
  isolated-blocks image nsid lba page there = image.apart (spot_of c page).unit (data-page nsid lba page there).0 (used-at nsid lba page there)

  -- ---- what was found keeps data apart

  as-found : (unit : ℕ) → IsIsolated c (state_in c cells r) cells unit → IsIsolated c (first_state c (found_in c cells r)) cells unit
  unfolding first_state state_in state_with
  as-found unit h = record { generation = h.generation; alone = h.alone }

  as-read : (unit : ℕ) → IsIsolated c (first_state c (found_in c cells r)) cells unit → IsIsolated c (state_in c cells r) cells unit
  unfolding first_state state_in state_with
  as-read unit h = record { generation = h.generation; alone = h.alone }

  page-of : (o : Option ℕ) (spot : Spot) → option_map (spot_of c) o ≡ Some spot → (page : ℕ) × (o ≡ Some page) × (spot_of c page ≡ spot)
  page-of None spot e = absurd cc
  page-of (Some page) spot e = (page, refl, cc)

  pub image-apart : IsIsolatedImage c cells r → OpenedApart c (found_in c cells r) cells
  image-apart image = record {
    grouped = image.grouped;
    apart = λ unit is x among same.
        let stands : option_map (spot_of c) (r.pages x.nsid x.lba) ≡ Some x.spot = subst (λ (y : FoundBlock). option_map (spot_of c) (r.pages y.nsid y.lba) ≡ Some y.spot) among.2 (blocks-stand c cells r among.0 _ among.1) in
        let at = page-of (r.pages x.nsid x.lba) x.spot stands in
        as-found unit (subst (IsIsolated c (state_in c cells r) cells) (ap (λ (y : Spot). y.unit) at.2 ∙ same) (isolated-blocks image x.nsid x.lba at.0 at.1));
  }

  found-there : (o : Option FoundBlock) (b : Block) → option_map found_block o ≡ Some b → (x : FoundBlock) × (o ≡ Some x) × (found_block x ≡ b)
  found-there None b e = absurd cc
  found-there (Some x) b e = (x, refl, cc)

  same-spot : (x : FoundBlock) (b : Block) (spot : Spot) → found_block x ≡ b → b.page ≡ PageName.found spot → x.spot ≡ spot
  same-spot x b spot e page = let both : PageName.found x.spot ≡ PageName.found spot = ap (λ (y : Block). y.page) e ∙ page in cc

  pub found-isolates : OpenedApart c (found_in c cells r) cells → IsolatesBlocks
  found-isolates apart nsid lba page there =
      let on = stands-on c cells r valid nsid lba page there in
      let block = found-there (block_found c cells r nsid lba) _ (found-read c cells r nsid lba ∙ on.read) in
      let spot : block.0.spot ≡ spot_of c page = same-spot block.0 _ (spot_of c page) block.2 refl in
      as-read (spot_of c page).unit
      (apart.apart (spot_of c page).unit (data-page nsid lba page there).0 block.0
      (find-contains _ (found_blocks c cells r) block.0 (blocks-find c cells r (lie-within c cells r valid) nsid lba ∙ block.1))
      (ap (λ (y : Spot). y.unit) spot))

  -- ---- each unit is kept apart

  module _ (es : List Entry) (none : (unit : ℕ) → list_any (puts_into unit) es ≡ false) (t : PageTables) (opened : AreOpened c cells r t) (grouped : IsGrouped c cells) (isolates : IsolatesBlocks) where
    owner-in : (spot : Spot) (x : Owner) → owner_at t.owners spot ≡ Some x → IsOwned spot x
    owner-in spot x e = owned-of spot x (sym (opened.owners spot) ∙ e)

    never-put : (unit : ℕ) → IsTrue (list_any (puts_into unit) es) → ⊥
    never-put unit put = no (sym (none unit) ∙ put) where
      no : false ≡ true → ⊥
      no e = cc

    isolated-at : (unit : ℕ) → IsDataUnit c unit → (spot : Spot) (x : Owner) → IsOwned spot x → spot.unit ≡ unit → IsIsolated c (state_in c cells r) cells unit
    isolated-at unit is spot x o same = subst (IsIsolated c (state_in c cells r) cells) (ap (λ (y : Spot). y.unit) (spot-back c spot o.held.page.1) ∙ same) (isolates o.of.page.spare.nsid o.of.page.spare.lba (page_number (geometry_of c) spot) o.of.there)

    -- the page of an owner among those of its unit
    own-page : (unit : ℕ) (Fact : DataSpare → Type 0) → EachPage c cells unit Fact → (spot : Spot) (x : Owner) → IsOwned spot x → spot.unit ≡ unit → Fact x.spare
    own-page unit Fact each spot x o same =
        let y = each spot.page o.held.spare o.of.page.bytes o.held.page.1 (ap (λ (u : ℕ). slice_get cells (page_number (geometry_of c) (page_in u spot.page))) (sym same) ∙ o.held.cell) in
        let said : y.0 ≡ x.spare = one (sym y.1 ∙ o.held.says) ∙ sym o.spare in
        subst Fact said y.2 where
          one : {a b : DataSpare} → Some a ≡ Some b → a ≡ b
          one e = cc

    group-force : (unit : ℕ) (is : IsDataUnit c unit) → IsTaken t es unit → (grouped unit is).generation ≡ r.generation
    group-force unit is (inr put) = absurd (never-put unit put)
    group-force unit is (inl owned) =
        let o = owner-in owned.0 owned.1 owned.2 in
        sym (own-page unit _ (grouped unit is).pages owned.0 owned.1 o owned.3).1 ∙ o.names.generation

    goes-way : (unit : ℕ) → IsDataUnit c unit → IsTaken t es unit → GoOneWay c t.handles.classes cells unit
    unfolding state_in state_with
    goes-way unit is (inr put) = absurd (never-put unit put)
    goes-way unit is (inl owned) = (lane_by t.handles.classes owned.1.spare, each) where
      classes : classes_of c r.enabled r.index ≡ t.handles.classes
      classes = opened.handles.classes

      Apart : ℕ → Type 0
      Apart ruh = option_map_or is_persistent (slice_get (classes_of c r.enabled r.index) ruh) false ≡ true

      said : {a b : DataSpare} → Some a ≡ Some b → a ≡ b
      said e = cc

      each : EachPage c cells unit (λ y. lane_by t.handles.classes y ≡ lane_by t.handles.classes owned.1.spare)
      each page spare bytes low e =
          let o = owner-in owned.0 owned.1 owned.2 in
          let isolated = isolated-at unit is owned.0 owned.1 o owned.3 in
          let y = isolated.alone page spare bytes low e in
          let of_y : Apart y.0.ruh → owned.1.spare.ruh ≡ y.0.ruh = λ keeps. own-page unit (λ z. z.ruh ≡ y.0.ruh) (y.2 keeps) owned.0 owned.1 o owned.3 in
          let of_x : Apart owned.1.spare.ruh → y.0.ruh ≡ owned.1.spare.ruh = λ keeps.
          let z = own-page unit (λ x. IsTrue (keeps_apart c (state_in c cells r) x.ruh) → EachPage c cells unit (λ w. w.ruh ≡ x.ruh)) isolated.alone owned.0 owned.1 o owned.3 keeps page spare bytes low e in
          ap (λ (s : DataSpare). s.ruh) (said (sym y.1 ∙ z.1)) ∙ z.2 in (
            y.0,
            y.1,
            same-way t.handles.classes y.0.ruh owned.1.spare.ruh
                (λ keeps. of_y (ap (λ (xs : List Class). option_map_or is_persistent (slice_get xs y.0.ruh) false) classes ∙ keeps))
                (λ keeps. of_x (ap (λ (xs : List Class). option_map_or is_persistent (slice_get xs owned.1.spare.ruh) false) classes ∙ keeps)),
          )

    apart-opened : (unit : ℕ) → IsDataUnit c unit → IsKeptApart c r.generation t.handles.classes cells unit (IsTaken t es unit)
    apart-opened unit is = record {
      group = grouped unit is;
      past = λ taken. let same = group-force unit is taken in omega (arith, same);
      way = λ taken force. goes-way unit is taken;
    }

    laned-opened : IsLaned c r.generation es (since_setting es) t cells
    laned-opened = record {
      units = apart-opened;
      filled = λ rg ruh unit is e. absurd (never (sym (ap (λ (x : Reference). x.unit) (opened.handles.references rg ruh)) ∙ e));
      targets = λ rg unit lane is e. absurd (never (sym ((opened.passes rg).targets lane) ∙ e));
      put = λ unit is put. absurd (never-put unit (put-whole unit es put));
    } where
      never : {X : Type 0} {x : X} → None ≡ Some x → ⊥
      never e = cc

-- ---- books

module _ (c : DriveConfig) (cells : List Cell) (r : Reading) where
  generation-opened : (point_of c (found_in c cells r) (entries.Reopened ∷ [])).state.generation ≡ r.generation
  unfolding point_of state_of first_state after changed_by
  generation-opened = refl

  placed-opened : HasOnlyPlaced (point_of c (found_in c cells r) (entries.Reopened ∷ []))
  unfolding point_of state_of first_state after changed_by
  placed-opened queue index g spot going site = absurd cc

-- and cells whose data pages are those that were opened
pub laned-found : (c : DriveConfig) (opened : List Cell) (r : Reading) (b : BookSeen) (cells : List Cell) → IsValidConfig c → IsValid c opened r → IsReopened c opened r b → OpenedApart c b.found opened → SameDataPages c opened cells → AreLaned b cells
laned-found c opened r b cells config valid begun apart same =
    let es : List Entry = entries.Reopened ∷ [] in
    let was : OpenedApart c (found_in c opened r) opened = subst (λ (f : Found). OpenedApart c f opened) begun.found_is apart in
    laned-saved b opened cells (subst (λ (d : DriveConfig). SameDataPages d opened cells) (sym begun.config_is) same)
    (laned-by b opened c (found_in c opened r) es begun.config_is begun.found_is begun.entries_are
    (record {
      laned = subst (λ (g : ℕ). IsLaned c g es (since_setting es) b.pages opened) (sym (generation-opened c opened r))
          (laned-opened c opened r config valid es (λ unit. refl) b.pages begun.pages_are was.grouped (found-isolates c opened r config valid was));
      placed = placed-opened c opened r;
    }))

-- ---- units that had been used

none-put : (unit : ℕ) → list_any (puts_into unit) (before_erase unit (entries.Reopened ∷ [])) ≡ false
unfolding before_erase
none-put unit = refl

alone-first : (c : DriveConfig) (cells : List Cell) (r : Reading) (b : BookSeen) → IsReopened c cells r b → AreLeftAlone cells (entries.Reopened ∷ []) b cells
alone-first c cells r b begun unit is used = record {
  none = record { none_put = none-put unit; none_programmed = λ kept page low. inl refl };
  stands = λ kept. ⊎_elim
      (λ free. absurd (no (sym (ap (λ (d : DriveConfig). is_blank_unit (geometry_of d) cells unit) begun.config_is ∙ free.2) ∙ used)))
      (λ closed. ap gets_none closed.0)
      (begun.pages_are.units unit (subst (λ (d : DriveConfig). IsDataUnit d unit) begun.config_is is));
} where
  no : true ≡ false → ⊥
  no e = cc

pub alone-found : (c : DriveConfig) (opened : List Cell) (r : Reading) (b : BookSeen) (cells : List Cell) → IsReopened c opened r b → SameDataPages c opened cells → AreLeftAlone opened b.entries b cells
alone-found c opened r b cells begun same =
    alone-saved b opened cells (subst (λ (d : DriveConfig). SameDataPages d opened cells) (sym begun.config_is) same) opened b.entries
    (subst (λ (es : List Entry). AreLeftAlone opened es b opened) (sym begun.entries_are) (alone-first c opened r b begun))
