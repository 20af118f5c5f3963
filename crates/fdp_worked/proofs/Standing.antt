-- What stands in the image.
use Rattle.std.proofs.Common.{◌≡◌, ℕ, ◌<◌, Bool, true, false, cond, List, [], ◌∷◌, length, None, Some, refl, subst, arith, lit<, lit≤}
use Rattle.std.specs.Prelude.{◌==◌, ◌&&◌, Contains, IsTrue, option_map}
use Rattle.std.proofs.lemmas.Bool.{and_parts, eqb-true}
use Rattle.std.proofs.lemmas.List.Elements.{All-cons, All-nil}
use Rattle.fdp_base.specs.declared.config.Class.{Class}
use Rattle.fdp_base.specs.Config.{HasNoRepeat, IsHandleList, IsValidConfig, IsValidNamespace}
use Rattle.fdp_base.specs.Geometry.{IsWithin}
use Rattle.fdp_base.specs.Numbers.{has_repeat, numbers_from}
use Rattle.fdp_base.specs.Pattern.{repeated}
use Rattle.fdp_rules.specs.History.{FoundBlock, FoundNamespace, block_in, first_state, found_block, namespace_in, point_of, state_of, totals_of}
use Rattle.fdp_rules.specs.PlainState.{Block, Namespace}
use Rattle.fdp_rules.specs.Room.{handles_of, namespace_ids}
use Rattle.fdp_rules.specs.Sites.{trail_of}
use Rattle.fdp_history.specs.Listed.{IsListed}
use Rattle.fdp_history.specs.Orderly.{IsOrderly, IsOrderlyCopy}
use Rattle.fdp_history.specs.OrderlyState.{IsOrderlyBlock, IsOrderlyNamespace, IsOrderlyState}
use Rattle.fdp_history.specs.Standing.{IsBlockStanding, IsStanding}
use Rattle.fdp_history.proofs.Distinct.{no_repeat}
use Rattle.fdp_history.proofs.References.{no_reference-orderly}
use Rattle.fdp_worked.specs.Drives.{drive_s, drive_t, namespace}
use Rattle.fdp_worked.specs.FoundImage.{found_at, image, spot}

-- ---- the drives

one-once : (x : ℕ) → HasNoRepeat (x ∷ [])
one-once x i k less below = absurd (omega (arith, less, below))

two-once : HasNoRepeat (2 ∷ 0 ∷ [])
unfolding has_repeat
two-once = no_repeat (2 ∷ 0 ∷ []) refl

abbrev IsClasses : List Class → Type 0
IsClasses classes = IsWithin 1 16 (length classes)

pub s-valid : IsValidConfig drive_s
s-valid = record {
  ranges = record {
    block = refl;
    unit_pages = (lit≤ tt, lit≤ tt);
    groups = (lit≤ tt, lit≤ tt);
    units = (lit≤ tt, lit≤ tt);
    pages = lit≤ tt;
    area_units = (lit≤ tt, lit≤ tt);
    queues = (lit≤ tt, lit≤ tt);
    blocks_per_command = (lit≤ tt, lit≤ tt);
    command_in_unit = lit≤ tt;
    configurations = (lit≤ tt, lit≤ tt);
    handles = All-cons IsClasses _ [] (lit≤ tt, lit≤ tt) (All-nil IsClasses);
    index = lit< tt;
    namespaces = lit≤ tt;
    each_namespace = All-cons (IsValidNamespace drive_s) (namespace 52 (0 ∷ [])) []
        (record { blocks = lit≤ tt; handles = λ list is. let same : 0 ∷ [] ≡ list = cc in subst (λ xs. IsTrue true × IsHandleList 1 xs) same (refl, record { number = (lit≤ tt, lit≤ tt); known = All-cons (λ ruh. ruh < 1) 0 [] (lit< tt) (All-nil (λ ruh. ruh < 1)); distinct = one-once 0 }) })
        (All-nil (IsValidNamespace drive_s));
    queue_depth = (lit≤ tt, lit≤ tt);
    collectors = (lit≤ tt, lit≤ tt);
    turns = (lit≤ tt, lit≤ tt);
  };
  room = record { namespaces = lit≤ tt; area = lit≤ tt };
}

abbrev IsKnown : ℕ → Type 0
IsKnown ruh = ruh < 3

pub t-valid : IsValidConfig drive_t
t-valid = record {
  ranges = record {
    block = refl;
    unit_pages = (lit≤ tt, lit≤ tt);
    groups = (lit≤ tt, lit≤ tt);
    units = (lit≤ tt, lit≤ tt);
    pages = lit≤ tt;
    area_units = (lit≤ tt, lit≤ tt);
    queues = (lit≤ tt, lit≤ tt);
    blocks_per_command = (lit≤ tt, lit≤ tt);
    command_in_unit = lit≤ tt;
    configurations = (lit≤ tt, lit≤ tt);
    handles = All-cons IsClasses _ [] (lit≤ tt, lit≤ tt) (All-nil IsClasses);
    index = lit< tt;
    namespaces = lit≤ tt;
    each_namespace = All-cons (IsValidNamespace drive_t) (namespace 8 (2 ∷ 0 ∷ [])) []
        (record { blocks = lit≤ tt; handles = λ list is. let same : 2 ∷ 0 ∷ [] ≡ list = cc in subst (λ xs. IsTrue true × IsHandleList 3 xs) same (refl, record { number = (lit≤ tt, lit≤ tt); known = All-cons IsKnown 2 (0 ∷ []) (lit< tt) (All-cons IsKnown 0 [] (lit< tt) (All-nil IsKnown)); distinct = two-once }) })
        (All-nil (IsValidNamespace drive_t));
    queue_depth = (lit≤ tt, lit≤ tt);
    collectors = (lit≤ tt, lit≤ tt);
    turns = (lit≤ tt, lit≤ tt);
  };
  room = record { namespaces = lit≤ tt; area = lit≤ tt };
}

-- ---- the image

abbrev only : Namespace
only = record { size = 8; handles = 2 ∷ 0 ∷ []; given = true; birth = 0 }

-- the one namespace of the image
the-namespace : (nsid : ℕ) (n : Namespace) → namespace_in image.namespaces nsid ≡ Some n → (1 ≡ nsid) × (only ≡ n)
the-namespace nsid n e =
    let P : Bool → Type 0 = λ b. (1 == nsid) ≡ b → option_map (λ (x : FoundNamespace). x.namespace) (cond b (Some (record { nsid = 1; namespace = only })) None) ≡ Some n → (1 ≡ nsid) × (only ≡ n) in
    elim (1 == nsid) as P [ true ↦ λ t some. (eqb-true 1 nsid t, cc) | false ↦ λ _ none. absurd cc ] refl e

-- its two blocks
the-blocks : (Q : ℕ → ℕ → Block → Type 0) → Q 1 0 (found_block (found_at 0 100 0)) → Q 1 1 (found_block (found_at 1 101 1)) → (nsid lba : ℕ) (b : Block) → block_in image.blocks nsid lba ≡ Some b → Q nsid lba b
the-blocks Q first second nsid lba b e =
    let at : (i : ℕ) (x : FoundBlock) → (1 == nsid && i == lba) ≡ true → Some (found_block x) ≡ Some b → Q 1 i (found_block x) → Q nsid lba b = λ i x t some q.
    let parts = and_parts (1 == nsid) (i == lba) t in
    let is : found_block x ≡ b = cc in
    subst (λ n. Q n lba b) (eqb-true 1 nsid parts.0) (subst (λ k. Q 1 k b) (eqb-true i lba parts.1) (subst (Q 1 i) is q)) in
    let P : Bool → Type 0 = λ t. (1 == nsid && 0 == lba) ≡ t → option_map found_block (cond t (Some (found_at 0 100 0)) (cond (1 == nsid && 1 == lba) (Some (found_at 1 101 1)) None)) ≡ Some b → Q nsid lba b in
    elim (1 == nsid && 0 == lba) as P [
      | true ↦ λ t some. at 0 (found_at 0 100 0) t some first
      | false ↦ λ _ more.
          let R : Bool → Type 0 = λ t. (1 == nsid && 1 == lba) ≡ t → option_map found_block (cond t (Some (found_at 1 101 1)) None) ≡ Some b → Q nsid lba b in
          elim (1 == nsid && 1 == lba) as R [ true ↦ λ t some. at 1 (found_at 1 101 1) t some second | false ↦ λ _ none. absurd cc ] refl more
    ] refl e

namespace-orderly : IsOrderlyNamespace drive_t (first_state drive_t image) 1 only
unfolding first_state
namespace-orderly = record {
  identifier = (lit≤ tt, lit≤ tt);
  size = lit≤ tt;
  number = (lit≤ tt, lit≤ tt);
  handles = All-cons IsKnown 2 (0 ∷ []) (lit< tt) (All-cons IsKnown 0 [] (lit< tt) (All-nil IsKnown));
  birth = lit≤ tt;
}

state-orderly : IsOrderlyState drive_t (first_state drive_t image)
unfolding first_state repeated
state-orderly = record {
  index = lit< tt;
  generation = lit≤ tt;
  namespaces = λ nsid n e.
      let is = the-namespace nsid n e in
      subst (λ i. IsOrderlyNamespace drive_t (first_state drive_t image) i n) is.0 (subst (IsOrderlyNamespace drive_t (first_state drive_t image) 1) is.1 namespace-orderly);
  writes = λ queue g e. absurd cc;
  tickets = λ a b g h e f same. absurd cc;
  blocks = the-blocks (IsOrderlyBlock drive_t (first_state drive_t image)) (record { address = lit< tt; group = lit< tt; handle = lit< tt; bytes = refl }) (record { address = lit< tt; group = lit< tt; handle = lit< tt; bytes = refl });
  references = λ rg ruh. no_reference-orderly drive_t (first_state drive_t image) rg t-valid;
  units = λ rg ruh other_rg other_ruh unit e f. absurd cc;
  media = lit≤ tt;
}

pub image-orderly : IsOrderly drive_t (point_of drive_t image [])
unfolding point_of state_of first_state totals_of trail_of
image-orderly = record {
  state = state-orderly;
  positions = refl;
  sites = λ ticket index spot e. absurd cc;
  copies = λ rg. All-nil (IsOrderlyCopy drive_t rg);
}

pub image-standing : IsStanding drive_t (point_of drive_t image [])
unfolding point_of state_of first_state trail_of
image-standing = record {
  blocks = the-blocks (λ nsid lba b. IsBlockStanding drive_t (point_of drive_t image []) b)
      (record { spot = spot 3 0; site = refl; page = (lit< tt, lit< tt); group = refl; since = λ ticket index is. absurd cc; ended = λ ticket index queue g is going. absurd cc })
      (record { spot = spot 3 1; site = refl; page = (lit< tt, lit< tt); group = refl; since = λ ticket index is. absurd cc; ended = λ ticket index queue g is going. absurd cc });
  writes = λ queue index g spot going site. absurd cc;
}

pub image-listed : IsListed drive_t (first_state drive_t image)
unfolding first_state namespace_ids numbers_from
image-listed = record {
  handles = λ nsid n e. subst (λ (x : Namespace). HasNoRepeat x.handles) (the-namespace nsid n e).1 two-once;
  blocks = the-blocks (λ nsid lba b. Contains (handles_of (first_state drive_t image) nsid) b.ruh) (0, lit< tt, refl) (0, lit< tt, refl);
  room = lit≤ tt;
}
