-- The pointers when a run over an image begins: no two lead to one page, and each block owns its page and finds its content there.
use Rattle.std.proofs.Common.{◌≡◌, ℕ, Bool, true, false, List, Option, Some, None, refl, sym, ◌∙◌, ap, subst, eq-eqb}
use Rattle.std.specs.Prelude.{◌==◌, if◌then◌else◌, option_map}
use Rattle.std.specs.Option.{option_and_then, option_map_or}
use Rattle.std.proofs.lemmas.Bool.{eqb-true}
use Rattle.fdp_base.specs.declared.config.DriveConfig.{DriveConfig}
use Rattle.fdp_base.specs.declared.entry.Spot.{Spot}
use Rattle.fdp_base.specs.declared.spare.DataSpare.{DataSpare}
use Rattle.fdp_base.specs.Config.{IsValidConfig}
use Rattle.fdp_base.specs.Placement.{geometry_of}
use Rattle.fdp_flash.specs.declared.cell.Cell.{Cell}
use Rattle.fdp_flash.specs.declared.cell.Cell.TheVariants.{Whole}
use Rattle.fdp_flash.specs.Layout.{page_number}
use Rattle.fdp_found.specs.Opened.{led_in, owner_by, owner_found}
use Rattle.fdp_found.proofs.Leading.{StandsOn, held-on, led-none, led-some, stands-on}
use Rattle.fdp_found.proofs.Paging.{held-of, number-back, spot-back}
use Rattle.fdp_found.proofs.Reading.{Names}
use Rattle.fdp_image.specs.Outline.{state_with}
use Rattle.fdp_image.specs.Reading.{Reading, has_page, spot_of}
use Rattle.fdp_image.specs.Valid.{IsValid, state_in}
use Rattle.fdp_locations.specs.Held.{pages_held}
use Rattle.fdp_locations.specs.Located.{AreHandled, NameTheirUnits, handle_at}
use Rattle.fdp_locations.specs.Written.{IsWritten, Written}
use Rattle.fdp_owners.specs.declared.owner.Holder.TheVariants.{Block}
use Rattle.fdp_owners.specs.declared.owner.Owner.{Owner}
use Rattle.fdp_owners.specs.Owned.{AreOwners, IsOwned, page_of}
use Rattle.fdp_owners.specs.OwnerTable.{pointer_of}
use Rattle.fdp_pointers.specs.Contents.{PageContent, content_at, content_of_block}
use Rattle.fdp_pointers.specs.Facts.{Carries, IsApart, Page}
use Rattle.fdp_pointers.specs.Pointers.{Pointer, Pointer.of_block, Pointer.of_flight}
use Rattle.fdp_records.specs.Spares.{said_by_data}
use Rattle.fdp_rules.specs.PlainState as state
use Rattle.fdp_rules.specs.Sites.{group_of}

-- the block behind a pointer that leads somewhere
pub record IsLedBlock (c : DriveConfig) (cells : List Cell) (r : Reading) (p : Pointer) (y : Page) : Type 0 where
  pub nsid : ℕ
  pub lba : ℕ
  pub page : ℕ
  pub pointer : p ≡ of_block nsid lba
  pub there : r.pages nsid lba ≡ Some page
  pub on : StandsOn c cells r nsid lba page
  pub is : y ≡ record { spot = spot_of c page; spare = on.said }

-- an owner that was found
pub record IsOwnerOf (c : DriveConfig) (cells : List Cell) (r : Reading) (spot : Spot) (x : Owner) : Type 0 where
  pub page : Written
  pub held : pages_held c cells spot ≡ Some page
  pub there : r.pages page.spare.nsid page.spare.lba ≡ Some (page_number (geometry_of c) spot)
  pub is : x ≡ record { holder = Block; spare = page.spare }

one : {X : Type 0} {x y : X} → Some x ≡ Some y → x ≡ y
one e = cc

never : {X : Type 0} {x : X} → None ≡ Some x → ⊥
never e = cc

pub owner-of : (c : DriveConfig) (cells : List Cell) (r : Reading) (spot : Spot) (x : Owner) → owner_found c cells r spot ≡ Some x → IsOwnerOf c cells r spot x
owner-of c cells r spot x e = of_page (pages_held c cells spot) refl e where
  n : ℕ
  n = page_number (geometry_of c) spot

  of_number : (w : Written) → pages_held c cells spot ≡ Some w → (o : Option ℕ) → r.pages w.spare.nsid w.spare.lba ≡ o → option_map_or (λ k. k == n) o false ≡ true → x ≡ record { holder = Block; spare = w.spare } → IsOwnerOf c cells r spot x
  of_number w held None there same is = absurd cc
  of_number w held (Some k) there same is = record { page = w; held = held; there = there ∙ ap Some (eqb-true k n same); is = is }

  of_test : (w : Written) → pages_held c cells spot ≡ Some w → (b : Bool) → has_page r n w.spare.nsid w.spare.lba ≡ b → (if b then Some (record { holder = Block; spare = w.spare }) else None) ≡ Some x → IsOwnerOf c cells r spot x
  of_test w held false has some = absurd cc
  of_test w held true has some = of_number w held (r.pages w.spare.nsid w.spare.lba) refl has cc

  of_page : (o : Option Written) → pages_held c cells spot ≡ o → option_and_then (λ (w : Written). owner_by r n w.spare) o ≡ Some x → IsOwnerOf c cells r spot x
  of_page None held some = absurd cc
  of_page (Some w) held some = of_test w held (has_page r n w.spare.nsid w.spare.lba) refl some

module _ (c : DriveConfig) (cells : List Cell) (r : Reading) (valid : IsValid c cells r) (config : IsValidConfig c) where
  pub led-block : (p : Pointer) (y : Page) → led_in c cells r p ≡ Some y → IsLedBlock c cells r p y
  led-block (of_flight queue index) y e = absurd (never e)
  led-block (of_block nsid lba) y e = of (r.pages nsid lba) refl where
    of : (o : Option ℕ) → r.pages nsid lba ≡ o → IsLedBlock c cells r (of_block nsid lba) y
    of None none = absurd (never (sym (led-none c cells r valid nsid lba none) ∙ e))
    of (Some page) there =
        let on = stands-on c cells r valid nsid lba page there in
        record { nsid = nsid; lba = lba; page = page; pointer = refl; there = there; on = on; is = one (sym e ∙ led-some c cells r valid config nsid lba page there on) }

  pub led-apart : IsApart (led_in c cells r)
  led-apart p q y z e f same =
      let a = led-block p y e in
      let b = led-block q z f in
      let spots : spot_of c a.page ≡ spot_of c b.page = sym (ap (λ (x : Page). x.spot) a.is) ∙ same ∙ ap (λ (x : Page). x.spot) b.is in
      let pages : a.page ≡ b.page = sym (number-back c a.page) ∙ ap (page_number (geometry_of c)) spots ∙ number-back c b.page in
      let names = valid.apart a.nsid a.lba b.nsid b.lba b.page (a.there ∙ ap Some pages) b.there in
      a.pointer ∙ (λ d. of_block (names.0 d) (names.1 d)) ∙ sym b.pointer

  -- ---- owners

  pub owner-on : (nsid lba page : ℕ) → r.pages nsid lba ≡ Some page → (on : StandsOn c cells r nsid lba page) → owner_found c cells r (spot_of c page) ≡ Some (record { holder = Block; spare = on.said })
  owner-on nsid lba page there on =
      let n : ℕ = page_number (geometry_of c) (spot_of c page) in
      let at : r.pages on.said.nsid on.said.lba ≡ Some page = ap (λ k. r.pages k on.said.lba) on.names.nsid_is ∙ ap (r.pages nsid) on.names.lba_is ∙ there in
      let has : has_page r n on.said.nsid on.said.lba ≡ true = ap (λ (o : Option ℕ). option_map_or (λ k. k == n) o false) at ∙ eq-eqb page n (sym (number-back c page)) in
      ap (option_and_then (λ (w : Written). owner_by r n w.spare)) (held-on c cells r valid config nsid lba page on)
      ∙ ap (λ (b : Bool). if b then Some (record { holder = Block; spare = on.said }) else None) has

  led-owned : (p : Pointer) (y : Page) → led_in c cells r p ≡ Some y → IsOwned (owner_found c cells r) p y
  led-owned p y e =
      let a = led-block p y e in
      record {
        owner = record { holder = Block; spare = a.on.said };
        is_owner = ap (λ (x : Page). owner_found c cells r x.spot) a.is ∙ owner-on a.nsid a.lba a.page a.there a.on;
        points = (λ d. of_block (a.on.names.nsid_is d) (a.on.names.lba_is d)) ∙ sym a.pointer;
        spare = sym (ap (λ (x : Page). x.spare) a.is);
      }

  -- the spare of an owned page is the one by which the block is kept there
  owner-said : (spot : Spot) (x : Owner) (a : IsOwnerOf c cells r spot x) → (on : StandsOn c cells r a.page.spare.nsid a.page.spare.lba (page_number (geometry_of c) spot)) → on.said ≡ a.page.spare
  owner-said spot x a on =
      let h = held-of c cells spot a.page a.held in
      let cell : Whole h.spare a.page.bytes ≡ Whole on.spare on.bytes = one (sym h.cell ∙ on.cell) in
      one (sym on.says ∙ ap said_by_data (sym (whole cell)) ∙ h.says)
    where
      whole : {a b d f : List ℕ} → Whole a b ≡ Whole d f → a ≡ d
      whole same = cc

  owner-led : (spot : Spot) (x : Owner) → owner_found c cells r spot ≡ Some x → led_in c cells r (pointer_of x) ≡ Some (page_of spot x)
  owner-led spot x e =
      let a = owner-of c cells r spot x e in
      let s : DataSpare = a.page.spare in
      let h = held-of c cells spot a.page a.held in
      let on = stands-on c cells r valid s.nsid s.lba (page_number (geometry_of c) spot) a.there in
      let said : on.said ≡ s = owner-said spot x a on in
      subst (λ (z : Owner). led_in c cells r (pointer_of z) ≡ Some (page_of spot z)) (sym a.is)
      (led-some c cells r valid config s.nsid s.lba (page_number (geometry_of c) spot) a.there on ∙ (λ d. Some (record { spot = spot-back c spot h.page.1 d; spare = said d })))

  -- it names the block, the group of its unit and the generation in force
  pub owner-names : (spot : Spot) (x : Owner) → owner_found c cells r spot ≡ Some x → Names c r x.spare.nsid x.spare.lba (page_number (geometry_of c) spot) x.spare
  owner-names spot x e =
      let a = owner-of c cells r spot x e in
      let s : DataSpare = a.page.spare in
      let on = stands-on c cells r valid s.nsid s.lba (page_number (geometry_of c) spot) a.there in
      subst (λ (z : Owner). Names c r z.spare.nsid z.spare.lba (page_number (geometry_of c) spot) z.spare) (sym a.is)
      (subst (λ (z : DataSpare). Names c r s.nsid s.lba (page_number (geometry_of c) spot) z) (owner-said spot x a on) on.names)

  pub led-owners : AreOwners (owner_found c cells r) (led_in c cells r)
  led-owners = record { owned = led-owned; led = owner-led }

  -- ---- contents

  block-behind : (p : Pointer) (y : Page) → (a : IsLedBlock c cells r p y) → (state_in c cells r).blocks a.nsid a.lba ≡ Some (record { bytes = a.on.bytes; rg = a.on.said.rg; ruh = a.on.said.ruh; page = state.PageName.found (spot_of c a.page) })
  unfolding state_in state_with
  block-behind p y a = a.on.read

  pub led-carries : Carries (IsWritten (pages_held c cells)) (content_at c (state_in c cells r)) (led_in c cells r)
  led-carries p y x e content =
      let a = led-block p y e in
      let behind : content_at c (state_in c cells r) p ≡ Some (record { name = state.PageName.found (spot_of c a.page); bytes = a.on.bytes }) = ap (content_at c (state_in c cells r)) a.pointer ∙ ap (option_map content_of_block) (block-behind p y a) in
      let bytes : a.on.bytes ≡ x.bytes = ap (λ (z : PageContent). z.bytes) (one (sym behind ∙ content)) in
      ap (λ (z : Page). pages_held c cells z.spot) a.is ∙ held-on c cells r valid config a.nsid a.lba a.page a.on
      ∙ (λ d. Some (record { spare = sym (ap (λ (z : Page). z.spare) a.is) d; bytes = bytes d }))

  -- the spare of a block's page names the handle of the block
  pub led-handled : AreHandled (state_in c cells r) (led_in c cells r)
  led-handled p y ruh e handle =
      let a = led-block p y e in
      let behind : handle_at (state_in c cells r) p ≡ Some a.on.said.ruh = ap (handle_at (state_in c cells r)) a.pointer ∙ ap (option_map (λ (b : state.Block). b.ruh)) (block-behind p y a) in
      ap (λ (z : Page). z.spare.ruh) a.is ∙ one (sym behind ∙ handle)

  -- and that names the generation in force and the group of its unit
  pub led-units : NameTheirUnits c r.generation (led_in c cells r)
  led-units p y e =
      let a = led-block p y e in (
        ap (λ (z : Page). z.spare.generation) a.is ∙ a.on.names.generation,
        ap (λ (z : Page). z.spare.rg) a.is ∙ a.on.names.group ∙ sym (ap (λ (z : Page). group_of c z.spot.unit) a.is),
      )
