-- What an image says is valid where that is what a drive may say, and each block is kept on its page.
use Rattle.std.proofs.Common.{◌≡◌, ◌≢◌, ℕ, zero, suc, ◌<◌, Bool, true, false, List, [], ◌∷◌, Option, Some, None, refl, sym, ap, subst, ◌∙◌, arith, ⊎_elim}
use Rattle.std.specs.Prelude.{◌&&◌, ◌==◌, ◌||◌, Contains, if◌then◌else◌, length, nat_lt, slice_get, slice_index_or}
use Rattle.std.specs.Option.{option_and_then, option_map_or}
use Rattle.std.proofs.lemmas.Bool.{and_parts, ltb-true}
use Rattle.std.proofs.lemmas.Bool.Decides.{eqb_tells, nat_tests}
use Rattle.fdp_base.specs.declared.config.DriveConfig.{DriveConfig}
use Rattle.fdp_base.specs.declared.spare.DataSpare.{DataSpare}
use Rattle.fdp_base.specs.Placement.{geometry_of}
use Rattle.fdp_flash.specs.declared.cell.Cell.{Cell}
use Rattle.fdp_flash.specs.declared.cell.Cell.TheVariants.{Blank, Torn, Whole}
use Rattle.fdp_image.specs.Areas.{data_pages}
use Rattle.fdp_image.specs.Outline.{state_with}
use Rattle.fdp_image.specs.Reading.{Reading, spot_of}
use Rattle.fdp_image.specs.Valid.{IsGoodBlock, IsValid, block_by, block_from, block_read, is_named}
use Rattle.fdp_records.specs.Spares.{said_by_data}
use Rattle.fdp_rules.specs.PlainState.{Block, Namespace, PageName.found}
use Rattle.fdp_state.specs.Good.{IsGood, LiesWithin}
use Rattle.fdp_state.specs.Parts.{handles_at}
use Rattle.fdp_recovery.specs.Blocks.{AreKept, holds, is_kept, is_one_of, names_block}
use Rattle.fdp_recovery.proofs.Sound.{kept_apart}

contains-of : (handles : List ℕ) (ruh : ℕ) → is_one_of handles ruh ≡ true → Contains handles ruh
contains-of [] ruh e = cc
contains-of (x ∷ xs) ruh e =
    ⊎_elim
    (λ (h : (x == ruh ≡ true) × (x ≡ ruh)). (0, omega arith, h.1))
    (λ (h : (x == ruh ≡ false) × (x ≢ ruh)).
    let rest : is_one_of xs ruh ≡ true = sym (ap (λ (b : Bool). b || is_one_of xs ruh) h.0) ∙ e in
    let there = contains-of xs ruh rest in
    (suc there.0, omega (arith, there.1), there.2))
    (eqb_tells x ruh)

-- the block of a page that holds one
record HoldsBlock (c : DriveConfig) (r : Reading) (nsid lba page : ℕ) (cell : Cell) : Type 0 where
  pub block : Block
  pub held : block_from c r nsid lba page cell ≡ Some block
  pub listed : is_one_of (handles_at r nsid) block.ruh ≡ true

held-of : (c : DriveConfig) (r : Reading) (nsid lba page : ℕ) (cell : Cell) → holds c r nsid lba page cell ≡ true → HoldsBlock c r nsid lba page cell
held-of c r nsid lba page Blank e = cc
held-of c r nsid lba page Torn e = cc
held-of c r nsid lba page (Whole spare bytes) e = of_said (said_by_data spare) refl e where
  of_said : (o : Option DataSpare) → said_by_data spare ≡ o → option_map_or (names_block c r nsid lba page) o false ≡ true → HoldsBlock c r nsid lba page (Whole spare bytes)
  of_said None is h = cc
  of_said (Some s) is h =
      let a = and_parts (is_named c r nsid lba page s) (is_one_of (handles_at r nsid) s.ruh) h in
      let b : Block = record { bytes = bytes; rg = s.rg; ruh = s.ruh; page = found (spot_of c page) } in
      record {
        block = b;
        held = ap (option_and_then (block_by c r nsid lba page bytes)) is ∙ ap (λ (t : Bool). if t then Some b else None) a.0;
        listed = a.1;
      }

-- a block that is kept on its page is read off it
pub record IsReadAt (c : DriveConfig) (cells : List Cell) (r : Reading) (nsid lba : ℕ) : Type 0 where
  pub block : Block
  pub held : block_read c cells r nsid lba ≡ Some block

pub kept-read : (c : DriveConfig) (cells : List Cell) (r : Reading) (nsid lba page : ℕ) → r.pages nsid lba ≡ Some page → is_kept c cells r nsid lba page ≡ true → IsReadAt c cells r nsid lba
kept-read c cells r nsid lba page there kept =
    of_cell (slice_get cells page) refl (and_parts (nat_lt page (data_pages (geometry_of c))) (option_map_or (holds c r nsid lba page) (slice_get cells page) false) kept).1
  where
    of_cell : (o : Option Cell) → slice_get cells page ≡ o → option_map_or (holds c r nsid lba page) o false ≡ true → IsReadAt c cells r nsid lba
    of_cell None at h = cc
    of_cell (Some cell) at h =
        let b = held-of c r nsid lba page cell h in
        record {
          block = b.block;
          held =
              ap (option_and_then (λ (p : ℕ). option_and_then (block_from c r nsid lba p) (slice_get cells p))) there
              ∙ ap (option_and_then (block_from c r nsid lba page)) at ∙ b.held;
        }

pub good-block : (c : DriveConfig) (cells : List Cell) (r : Reading) (nsid lba page : ℕ) → r.pages nsid lba ≡ Some page → LiesWithin r nsid lba → is_kept c cells r nsid lba page ≡ true
    → IsGoodBlock c cells r nsid lba page
good-block c cells r nsid lba page there lies kept =
    let a = and_parts (nat_lt page (data_pages (geometry_of c))) (option_map_or (holds c r nsid lba page) (slice_get cells page) false) kept in
    of_cell (ltb-true page (data_pages (geometry_of c)) a.0) (slice_get cells page) refl a.1
  where
    of_cell : page < data_pages (geometry_of c) → (o : Option Cell) → slice_get cells page ≡ o → option_map_or (holds c r nsid lba page) o false ≡ true → IsGoodBlock c cells r nsid lba page
    of_cell low None at h = cc
    of_cell low (Some cell) at h =
        let b = held-of c r nsid lba page cell h in
        record {
          data_page = low;
          namespace = lies.namespace;
          there = lies.there;
          within = lies.within;
          block = b.block;
          held =
              ap (option_and_then (λ (p : ℕ). option_and_then (block_from c r nsid lba p) (slice_get cells p))) there
              ∙ ap (option_and_then (block_from c r nsid lba page)) at ∙ b.held;
          listed =
              subst (λ (handles : List ℕ). Contains handles b.block.ruh) (ap (λ (o : Option Namespace). option_map_or (λ (x : Namespace). x.handles) o []) lies.there)
              (contains-of (handles_at r nsid) b.block.ruh b.listed);
        }

pub valid-of : (c : DriveConfig) (cells : List Cell) (r : Reading) → IsGood c r → AreKept c cells r → IsValid c cells r
unfolding state_with
valid-of c cells r good kept = record {
  index = good.index;
  identifiers = good.identifiers;
  namespaces = good.namespaces;
  room = good.room;
  blocks = λ nsid lba page there. good-block c cells r nsid lba page there (good.blocks nsid lba page there) (kept nsid lba page there);
  apart = kept_apart c cells r kept;
}

-- ---- blocks of an image that is valid are kept

either-true : (a b : Bool) → b ≡ true → (a || b) ≡ true
either-true true b e = refl
either-true false b e = e

both-true : (a b : Bool) → a ≡ true → b ≡ true → (a && b) ≡ true
both-true true b p q = q
both-true false b p q = cc

less-true : (a b : ℕ) → a < b → nat_lt a b ≡ true
less-true a b h = grind (arith, nat_tests)

equal-true : (x ruh : ℕ) → x ≡ ruh → (x == ruh) ≡ true
equal-true x ruh e = grind (arith, nat_tests)

one-of : (handles : List ℕ) (ruh k : ℕ) → k < length handles → slice_index_or handles k ruh ≡ ruh → is_one_of handles ruh ≡ true
one-of [] ruh k low at = absurd (omega (arith, low))
one-of (x ∷ xs) ruh zero low at = ap (λ (b : Bool). b || is_one_of xs ruh) (equal-true x ruh at)
one-of (x ∷ xs) ruh (suc k) low at = either-true (x == ruh) (is_one_of xs ruh) (one-of xs ruh k (omega (arith, low)) at)

-- a page off which a block is read that is of one of the handles holds it
holds-of : (c : DriveConfig) (r : Reading) (nsid lba page : ℕ) (cell : Cell) (b : Block) → block_from c r nsid lba page cell ≡ Some b → is_one_of (handles_at r nsid) b.ruh ≡ true → holds c r nsid lba page cell ≡ true
holds-of c r nsid lba page Blank b held listed = cc
holds-of c r nsid lba page Torn b held listed = cc
holds-of c r nsid lba page (Whole spare bytes) b held listed = of_said (said_by_data spare) held where
  of_named : (s : DataSpare) (t : Bool) → is_named c r nsid lba page s ≡ t → (if t then Some (record { bytes = bytes; rg = s.rg; ruh = s.ruh; page = found (spot_of c page) }) else None) ≡ Some b → names_block c r nsid lba page s ≡ true
  of_named s false is e = cc
  of_named s true is e =
      let block : Block = record { bytes = bytes; rg = s.rg; ruh = s.ruh; page = found (spot_of c page) } in
      let same : block ≡ b = cc in
      let ruh : s.ruh ≡ b.ruh = ap (λ (x : Block). x.ruh) same in
      both-true (is_named c r nsid lba page s) (is_one_of (handles_at r nsid) s.ruh) is (ap (is_one_of (handles_at r nsid)) ruh ∙ listed)

  of_said : (o : Option DataSpare) → option_and_then (block_by c r nsid lba page bytes) o ≡ Some b → option_map_or (names_block c r nsid lba page) o false ≡ true
  of_said None e = cc
  of_said (Some s) e = of_named s (is_named c r nsid lba page s) refl e

pub good-kept : (c : DriveConfig) (cells : List Cell) (r : Reading) (nsid lba page : ℕ) → r.pages nsid lba ≡ Some page → IsGoodBlock c cells r nsid lba page → is_kept c cells r nsid lba page ≡ true
good-kept c cells r nsid lba page there good =
    both-true (nat_lt page (data_pages (geometry_of c))) (option_map_or (holds c r nsid lba page) (slice_get cells page) false) (less-true page (data_pages (geometry_of c)) good.data_page)
    (of_cell (slice_get cells page) (sym (ap (option_and_then (λ (p : ℕ). option_and_then (block_from c r nsid lba p) (slice_get cells p))) there) ∙ good.held))
  where
    handles : handles_at r nsid ≡ good.namespace.handles
    handles = ap (λ (o : Option Namespace). option_map_or (λ (x : Namespace). x.handles) o []) good.there

    listed : is_one_of (handles_at r nsid) good.block.ruh ≡ true
    listed = ap (λ (xs : List ℕ). is_one_of xs good.block.ruh) handles ∙ one-of good.namespace.handles good.block.ruh good.listed.0 good.listed.1 good.listed.2

    of_cell : (o : Option Cell) → option_and_then (block_from c r nsid lba page) o ≡ Some good.block → option_map_or (holds c r nsid lba page) o false ≡ true
    of_cell None e = cc
    of_cell (Some cell) e = holds-of c r nsid lba page cell good.block e listed

pub kept-of : (c : DriveConfig) (cells : List Cell) (r : Reading) → IsValid c cells r → AreKept c cells r
kept-of c cells r valid nsid lba page there = good-kept c cells r nsid lba page there (valid.blocks nsid lba page there)
