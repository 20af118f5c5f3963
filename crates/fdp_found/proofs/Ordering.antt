-- A run over an image begins in order.
use Rattle.std.proofs.Common.{◌≡◌, ℕ, ◌<◌, List, [], Option, Some, sym, ◌∙◌, ap, subst, arith}
use Rattle.std.specs.Prelude.{All, Contains, length}
use Rattle.std.proofs.lemmas.List.Elements.{All-nil}
use Rattle.fdp_base.specs.declared.config.DriveConfig.{DriveConfig}
use Rattle.fdp_base.specs.declared.entry.Spot.{Spot}
use Rattle.fdp_base.specs.Config.{IsValidConfig}
use Rattle.fdp_base.specs.Placement.{geometry_of}
use Rattle.fdp_flash.specs.declared.cell.Cell.{Cell}
use Rattle.fdp_flash.specs.Cells.{AreCells}
use Rattle.fdp_found.specs.Beginning.{CanBegin}
use Rattle.fdp_found.specs.Finding.{found_in}
use Rattle.fdp_found.proofs.Reading.{IsReadOff, group-lies, page-lies, read-off}
use Rattle.fdp_found.proofs.Stating.{ids-within, lie-within, state-found}
use Rattle.fdp_history.specs.Listed.{IsListed}
use Rattle.fdp_history.specs.Orderly.{IsOrderly, IsOrderlyCopy}
use Rattle.fdp_history.specs.OrderlyState.{IsOrderlyBlock, IsOrderlyNamespace, IsOrderlyState}
use Rattle.fdp_history.specs.Standing.{IsBlockStanding, IsStanding}
use Rattle.fdp_history.proofs.References.{no_reference-orderly}
use Rattle.fdp_image.specs.Outline.{state_with}
use Rattle.fdp_image.specs.Reading.{Reading, spot_of}
use Rattle.fdp_image.specs.Valid.{IsGoodBlock, IsValid, block_read, state_in}
use Rattle.fdp_rules.specs.History.{first_state, point_of, state_of, totals_of}
use Rattle.fdp_rules.specs.PlainState.{Block, Namespace, PageName.found, PageName.written, PlainState}
use Rattle.fdp_rules.specs.Room.{handles_in_force, handles_of}
use Rattle.fdp_rules.specs.Sites.{first_site, trail_of}

all-at : (P : ℕ → Type 0) (xs : List ℕ) (x : ℕ) → All P xs → Contains xs x → P x
all-at P xs x all has = subst P has.2 (all has.0 x has.1)

module _ (c : DriveConfig) (cells : List Cell) (r : Reading) (valid : IsValid c cells r) where
  -- a block that is read is the good one of its page
  pub good-read : (nsid lba : ℕ) (b : Block) → (off : IsReadOff c cells r nsid lba b) → block_read c cells r nsid lba ≡ Some b → (good : IsGoodBlock c cells r nsid lba off.page) × (good.block ≡ b)
  good-read nsid lba b off e =
      let good = valid.blocks nsid lba off.page off.there in
      (good, one (sym good.held ∙ e)) where
        one : {x y : Block} → Some x ≡ Some y → x ≡ y
        one d = cc

  namespace-found : (nsid : ℕ) (n : Namespace) → r.namespaces nsid ≡ Some n → IsOrderlyNamespace c (state_in c cells r) nsid n
  unfolding state_in state_with
  namespace-found nsid n there =
      let id = ids-within c cells r valid nsid n there in
      let good = valid.namespaces nsid n there in
      record { identifier = (id.0, omega (arith, id.1)); size = good.some_blocks; number = (good.list.number.0, omega (arith, good.list.number.1)); handles = good.list.known; birth = good.born }

  handle-listed : (nsid lba : ℕ) (b : Block) → block_read c cells r nsid lba ≡ Some b → Contains (handles_of (state_in c cells r) nsid) b.ruh
  unfolding state_in state_with
  handle-listed nsid lba b e =
      let off = read-off c cells r nsid lba b e in
      let good = good-read nsid lba b off e in
      subst (λ (x : Block). Contains (handles_of (state_in c cells r) nsid) x.ruh) good.1
      (subst (λ (o : Option Namespace). Contains (handles_of (record (state_in c cells r) { namespaces = λ n. o }) nsid) good.0.block.ruh) (sym good.0.there) good.0.listed)

  block-found : IsValidConfig c → AreCells (geometry_of c) cells → (nsid lba : ℕ) (b : Block) → block_read c cells r nsid lba ≡ Some b → IsOrderlyBlock c (state_in c cells r) nsid lba b
  unfolding state_in state_with
  block-found config of_flash nsid lba b e =
      let off = read-off c cells r nsid lba b e in
      let good = good-read nsid lba b off e in
      let list = (valid.namespaces nsid good.0.namespace good.0.there).list in
      record {
        address = (lie-within c cells r valid).addresses nsid lba off.page off.there;
        group = subst (λ (x : Block). x.rg < c.groups) (sym off.is) (subst (λ (rg : ℕ). rg < c.groups) (sym off.names.group) (group-lies c off.page config good.0.data_page));
        handle = subst (λ (x : Block). x.ruh < handles_in_force c (state_in c cells r)) good.1 (all-at (λ ruh. ruh < handles_in_force c (state_in c cells r)) good.0.namespace.handles good.0.block.ruh list.known good.0.listed);
        bytes = subst (λ (x : Block). length x.bytes ≡ c.block) (sym off.is) (of_flash.blocks off.page off.spare off.bytes off.cell);
      }

  state-orderly : IsValidConfig c → AreCells (geometry_of c) cells → CanBegin r → IsOrderlyState c (state_in c cells r)
  unfolding state_in state_with
  state-orderly config of_flash can = record {
    index = valid.index;
    generation = omega (arith, can.unspent.generation);
    namespaces = namespace-found;
    writes = λ queue g e. absurd cc;
    tickets = λ a b g h e f same. absurd cc;
    blocks = block-found config of_flash;
    references = λ rg ruh. no_reference-orderly c (state_in c cells r) rg config;
    units = λ rg ruh other_rg other_ruh unit e f. absurd cc;
    media = omega arith;
  }

  pub orderly-found : IsValidConfig c → AreCells (geometry_of c) cells → CanBegin r → IsOrderly c (point_of c (found_in c cells r) [])
  unfolding point_of state_of trail_of totals_of first_state
  orderly-found config of_flash can = record {
    state = subst (IsOrderlyState c) (sym (state-found c cells r valid can)) (state-orderly config of_flash can);
    positions = omega arith;
    sites = λ ticket index spot e. absurd cc;
    copies = λ rg. All-nil (IsOrderlyCopy c rg);
  }

  -- ---- where the blocks stand

  block-stands : IsValidConfig c → (nsid lba : ℕ) (b : Block) → block_read c cells r nsid lba ≡ Some b → IsBlockStanding c (record (point_of c (found_in c cells r) []) { state = state_in c cells r }) b
  unfolding point_of trail_of state_in state_with
  block-stands config nsid lba b e =
      let off = read-off c cells r nsid lba b e in
      let good = good-read nsid lba b off e in
      let name : b.page ≡ found (spot_of c off.page) = ap (λ (x : Block). x.page) off.is in
      record {
        spot = spot_of c off.page;
        site = ap first_site name;
        page = page-lies c off.page config good.0.data_page;
        group = sym (ap (λ (x : Block). x.rg) off.is ∙ off.names.group);
        since = λ ticket index is. absurd (never (spot_of c off.page) ticket index (sym name ∙ is));
        ended = λ ticket index queue g is going. absurd (never (spot_of c off.page) ticket index (sym name ∙ is));
      } where
        never : (spot : Spot) (ticket index : ℕ) → found spot ≡ written ticket index → ⊥
        never spot ticket index same = cc

  pub standing-found : IsValidConfig c → CanBegin r → IsStanding c (point_of c (found_in c cells r) [])
  unfolding point_of state_of first_state trail_of state_in state_with
  standing-found config can = record {
    blocks = λ nsid lba b e.
        let s = state-found c cells r valid can in
        let there : (state_in c cells r).blocks nsid lba ≡ Some b = ap (λ (x : PlainState). x.blocks nsid lba) (sym s) ∙ e in
        subst (λ (x : PlainState). IsBlockStanding c (record (point_of c (found_in c cells r) []) { state = x }) b) (sym s) (block-stands config nsid lba b there);
    writes = λ queue index g spot going site. absurd cc;
  }

  -- ---- the lists of handles

  listed-in : IsListed c (state_in c cells r)
  unfolding state_in state_with
  listed-in = record {
    handles = λ nsid n there. (valid.namespaces nsid n there).list.distinct;
    blocks = handle-listed;
    room = valid.room;
  }

  pub listed-found : CanBegin r → IsListed c (first_state c (found_in c cells r))
  listed-found can = subst (IsListed c) (sym (state-found c cells r valid can)) listed-in
