-- The blocks of a unit that go one way, by what their pages say.
use Rattle.std.proofs.Common.{◌≡◌, ◌⊎◌, ℕ, zero, suc, ◌/◌, ◌<◌, ◌≤◌, Bool, true, false, IsTrue, List, [], ◌∷◌, Option, Some, None, refl, sym, ap, ◌∙◌, arith, inl, inr, ⊎_elim}
use Rattle.std.specs.Prelude.{if◌then◌else◌, slice_get, slice_index_or}
use Rattle.std.specs.Option.{option_and_then, option_map_or}
use Rattle.std.proofs.lemmas.Bool.{cases_lt}
use Rattle.fdp_base.specs.declared.config.Class.{Class}
use Rattle.fdp_base.specs.declared.config.Class.TheVariants.{Initial, Persistent}
use Rattle.fdp_base.specs.declared.config.DriveConfig.{DriveConfig}
use Rattle.fdp_base.specs.declared.spare.DataSpare.{DataSpare}
use Rattle.fdp_base.specs.Placement.{classes_of}
use Rattle.fdp_flash.specs.declared.cell.Cell.{Cell}
use Rattle.fdp_flash.specs.declared.cell.Cell.TheVariants.{Blank, Torn, Whole}
use Rattle.fdp_image.specs.CheckpointFields.{is_persistent}
use Rattle.fdp_image.specs.Reading.{Reading, spot_of}
use Rattle.fdp_image.specs.Valid.{GoOneWay, block_by, block_from, block_read, is_kept_apart, is_named}
use Rattle.fdp_opening.specs.Found.{IsFirstAstray, IsInPlace, lane_in, said_at, said_in}
use Rattle.fdp_passes.specs.GroupPasses.{lane_of}
use Rattle.fdp_records.specs.Spares.{said_by_data}
use Rattle.fdp_recovery.specs.Blocks.{AreKept, IsBefore}
use Rattle.fdp_recovery.proofs.Valid.{kept-read}
use Rattle.fdp_rules.specs.PlainState.{Block, PageName.found}

one : {X : Type 0} {x y : X} → Some x ≡ Some y → x ≡ y
one e = cc

-- ---- the ways of two handles

class-at : (xs : List Class) (k : ℕ) → option_map_or is_persistent (slice_get xs k) false ≡ is_persistent (slice_index_or xs k Initial)
class-at [] k = refl
class-at (x ∷ xs) zero = refl
class-at (x ∷ xs) (suc k) = class-at xs k

same-lane : (a b : Class) (x y : ℕ) → (x ≡ y → a ≡ b) → (is_persistent a ≡ true → y ≡ x) → (is_persistent b ≡ true → x ≡ y) → lane_of a x ≡ lane_of b y
same-lane Initial Initial x y same first second = refl
same-lane Initial Persistent x y same first second = let e : Initial ≡ Persistent = same (second refl) in absurd cc
same-lane Persistent b x y same first second =
    let e : x ≡ y = sym (first refl) in
    ap (lane_of Persistent) e ∙ ap (λ (k : Class). lane_of k y) (same e)

-- two handles go one way where each that is kept apart is the other
lanes-of : (c : DriveConfig) (r : Reading) (x y : ℕ) → (IsTrue (is_kept_apart c r x) → y ≡ x) → (IsTrue (is_kept_apart c r y) → x ≡ y) → lane_in c r x ≡ lane_in c r y
lanes-of c r x y first second =
    let classes : List Class = classes_of c r.enabled r.index in
    same-lane (slice_index_or classes x Initial) (slice_index_or classes y Initial) x y (ap (λ (k : ℕ). slice_index_or classes k Initial))
    (λ e. first (class-at classes x ∙ e)) (λ e. second (class-at classes y ∙ e))

one-handle : (a b : Class) (x y : ℕ) → lane_of a x ≡ lane_of b y → is_persistent a ≡ true → y ≡ x
one-handle Initial b x y e apart = absurd cc
one-handle Persistent Initial x y e apart = absurd cc
one-handle Persistent Persistent x y e apart = cc

-- and where they go one way, one that is kept apart is the other
apart-of : (c : DriveConfig) (r : Reading) (x y : ℕ) → lane_in c r x ≡ lane_in c r y → IsTrue (is_kept_apart c r x) → y ≡ x
apart-of c r x y e apart =
    let classes : List Class = classes_of c r.enabled r.index in
    one-handle (slice_index_or classes x Initial) (slice_index_or classes y Initial) x y e (sym (class-at classes x) ∙ apart)

-- ---- a block that is read is of the handle that its page says

record SaysHandle (cells : List Cell) (page ruh : ℕ) : Type 0 where
  pub spare : DataSpare
  pub said : said_at cells page ≡ Some spare
  pub ruh_is : spare.ruh ≡ ruh

said-read : (c : DriveConfig) (cells : List Cell) (r : Reading) (nsid lba page : ℕ) (b : Block) → r.pages nsid lba ≡ Some page → block_read c cells r nsid lba ≡ Some b → SaysHandle cells page b.ruh
said-read c cells r nsid lba page b there read =
    of_cell (slice_get cells page) refl (sym (ap (option_and_then (λ (p : ℕ). option_and_then (block_from c r nsid lba p) (slice_get cells p))) there) ∙ read)
  where
    of_named : (spare bytes : List ℕ) → slice_get cells page ≡ Some (Whole spare bytes) → (s : DataSpare) → said_by_data spare ≡ Some s → (t : Bool)
        → (if t then Some (record { bytes = bytes; rg = s.rg; ruh = s.ruh; page = found (spot_of c page) }) else None) ≡ Some b → SaysHandle cells page b.ruh
    of_named spare bytes at s says false e = absurd cc
    of_named spare bytes at s says true e =
        let block : Block = record { bytes = bytes; rg = s.rg; ruh = s.ruh; page = found (spot_of c page) } in
        let same : block ≡ b = one e in
        record { spare = s; said = ap (option_and_then said_in) at ∙ says; ruh_is = ap (λ (x : Block). x.ruh) same }

    of_said : (spare bytes : List ℕ) → slice_get cells page ≡ Some (Whole spare bytes) → (o : Option DataSpare) → said_by_data spare ≡ o → option_and_then (block_by c r nsid lba page bytes) o ≡ Some b → SaysHandle cells page b.ruh
    of_said spare bytes at None says e = absurd cc
    of_said spare bytes at (Some s) says e = of_named spare bytes at s says (is_named c r nsid lba page s) e

    of_cell : (o : Option Cell) → slice_get cells page ≡ o → option_and_then (block_from c r nsid lba page) o ≡ Some b → SaysHandle cells page b.ruh
    of_cell None at e = absurd cc
    of_cell (Some Blank) at e = absurd cc
    of_cell (Some Torn) at e = absurd cc
    of_cell (Some (Whole spare bytes)) at e = of_said spare bytes at (said_by_data spare) refl e

-- ---- blocks that go one way

module _ (c : DriveConfig) (cells : List Cell) (r : Reading) where
  lanes-one : AreKept c cells r → GoOneWay c cells r → (n l other nsid lba page : ℕ) (x y : DataSpare) → r.pages n l ≡ Some other → r.pages nsid lba ≡ Some page → other / c.unit_pages ≡ page / c.unit_pages
      → said_at cells other ≡ Some x → said_at cells page ≡ Some y → lane_in c r x.ruh ≡ lane_in c r y.ruh
  lanes-one kept ways n l other nsid lba page x y at there unit said-x said-y =
      let a = kept-read c cells r n l other at (kept n l other at) in
      let b = kept-read c cells r nsid lba page there (kept nsid lba page there) in
      let p = said-read c cells r n l other a.block at a.held in
      let q = said-read c cells r nsid lba page b.block there b.held in
      let first : x.ruh ≡ a.block.ruh = ap (λ (s : DataSpare). s.ruh) (one (sym said-x ∙ p.said)) ∙ p.ruh_is in
      let last : y.ruh ≡ b.block.ruh = ap (λ (s : DataSpare). s.ruh) (one (sym said-y ∙ q.said)) ∙ q.ruh_is in
      ap (λ (k : ℕ). lane_in c r k) first
      ∙ lanes-of c r a.block.ruh b.block.ruh (ways n l other nsid lba page a.block b.block at there unit a.held b.held) (ways nsid lba page n l other b.block a.block there at (sym unit) b.held a.held)
      ∙ ap (λ (k : ℕ). lane_in c r k) (sym last)

  -- cells that keep the blocks, those of each unit going one way, have none that is not in its place
  pub none-astray : (page : ℕ) → AreKept c cells r → GoOneWay c cells r → IsFirstAstray c cells r page → ⊥
  none-astray page kept ways first = first.astray (record {
    kept = kept first.nsid first.lba page first.there;
    way = λ n l other x y at before unit said-x said-y. lanes-one kept ways n l other first.nsid first.lba page x y at first.there unit said-x said-y;
  })

  in-order : (n l nsid lba : ℕ) → IsBefore n l nsid lba ⊎ IsBefore nsid lba n l ⊎ ((n ≡ nsid) × (l ≡ lba))
  in-order n l nsid lba =
      ⊎_elim
      (λ (low : n < nsid). inl (inl low))
      (λ (high : nsid ≤ n). ⊎_elim
      (λ (above : nsid < n). inr (inl (inl above)))
      (λ (below : n ≤ nsid).
      let same : n ≡ nsid = omega (arith, high, below) in
      ⊎_elim
      (λ (first : l < lba). inl (inr (same, first)))
      (λ (behind : lba ≤ l). ⊎_elim (λ (last : lba < l). inr (inl (inr (sym same, last)))) (λ (least : l ≤ lba). inr (inr (same, omega (arith, behind, least)))) (cases_lt lba l))
      (cases_lt l lba))
      (cases_lt nsid n))
      (cases_lt n nsid)

  -- where each block is in its place, those of each unit go one way
  pub ways-placed : ((n l p : ℕ) → r.pages n l ≡ Some p → IsInPlace c cells r n l p) → GoOneWay c cells r
  ways-placed placed nsid lba page other_nsid other_lba other x y at there unit read-x read-y apart = of_order (in-order nsid lba other_nsid other_lba) where
    p : SaysHandle cells page x.ruh
    p = said-read c cells r nsid lba page x at read-x

    q : SaysHandle cells other y.ruh
    q = said-read c cells r other_nsid other_lba other y there read-y

    by-lane : lane_in c r p.spare.ruh ≡ lane_in c r q.spare.ruh → y.ruh ≡ x.ruh
    by-lane e =
        let lanes : lane_in c r x.ruh ≡ lane_in c r y.ruh = ap (λ (k : ℕ). lane_in c r k) (sym p.ruh_is) ∙ e ∙ ap (λ (k : ℕ). lane_in c r k) q.ruh_is in
        apart-of c r x.ruh y.ruh lanes apart

    of_order : IsBefore nsid lba other_nsid other_lba ⊎ IsBefore other_nsid other_lba nsid lba ⊎ ((nsid ≡ other_nsid) × (lba ≡ other_lba)) → y.ruh ≡ x.ruh
    of_order (inl before) = by-lane ((placed other_nsid other_lba other there).way nsid lba page p.spare q.spare at before unit p.said q.said)
    of_order (inr (inl behind)) = by-lane (sym ((placed nsid lba page at).way other_nsid other_lba other q.spare p.spare there behind (sym unit) q.said p.said))
    of_order (inr (inr same)) =
        let e : block_read c cells r nsid lba ≡ block_read c cells r other_nsid other_lba = ap (λ (k : ℕ). block_read c cells r k lba) same.0 ∙ ap (block_read c cells r other_nsid) same.1 in
        ap (λ (b : Block). b.ruh) (one (sym read-y ∙ sym e ∙ read-x))
