-- The namespaces that a drive is made with, one after another.
use Rattle.std.proofs.Common.{◌≡◌, ℕ, zero, suc, ◌+◌, ◌-◌, ◌*◌, ◌<◌, ◌≤◌, Bool, true, false, cond, List, [], ◌∷◌, length, take, get_or, Option, None, Some, refl, ap, sym, subst, ◌∙◌, arith, add-one}
use Rattle.std.specs.Prelude.{◌==◌, option_map}
use Rattle.std.proofs.lemmas.Bool.Decides.{nat_tests}
use Rattle.fdp_base.specs.declared.config.DriveConfig.{DriveConfig}
use Rattle.fdp_base.specs.declared.config.NamespaceConfig.{NamespaceConfig}
use Rattle.fdp_base.specs.Config.{IsValidConfig}
use Rattle.fdp_base.specs.declared.config.Geometry.{Geometry}
use Rattle.fdp_base.specs.Geometry.{all_units}
use Rattle.fdp_rules.specs.History.{FoundNamespace, made_namespace}
use Rattle.fdp_base.specs.Numbers.{with_at}
use Rattle.fdp_base.specs.Placement.{budget_of, full_budget, geometry_of, handle_count}
use Rattle.fdp_rules.specs.PlainState.{Namespace}
use Rattle.std.proofs.lemmas.List.Sums.{get_or-le-sum_by}
use Rattle.std.proofs.lemmas.Nat.{mul-le}
use Rattle.fdp_map.specs.MapTable.{MapTable, mapped_at, size_in}
use Rattle.fdp_book.specs.Configured.{namespaces_from, size_of_some}
use Rattle.fdp_outline.specs.Fresh.{made_as}

head_first : {X Y : Type 0} (f : X → Y) (a b : Bool) (x : X) → a ≡ b → option_map f (cond a (Some x) None) ≡ cond b (Some (f x)) None
head_first f true true x e = refl
head_first f false false x e = refl
head_first f true false x e = cc
head_first f false true x e = cc

head_before : {X Y : Type 0} (f : X → Y) (a b : Bool) (x : X) (y : Y) (more less : Option X) → (a ≡ true → b ≡ false) → option_map f more ≡ cond b (Some y) (option_map f less) → option_map f (cond a (Some x) more) ≡ cond b (Some y) (option_map f (cond a (Some x) less))
head_before f true b x y more less apart e = let no : b ≡ false = apart refl in rw no refl
head_before f false b x y more less apart e = e

-- a namespace more
namespaces_from-more : (first i : ℕ) (xs : List NamespaceConfig) (nsid : ℕ) (d : NamespaceConfig) → i < length xs → namespaces_from first (take (suc i) xs) nsid ≡ cond (nsid == first + i) (Some (made_as (get_or xs i d))) (namespaces_from first (take i xs) nsid)
namespaces_from-more first i [] nsid d below = absurd (omega arith)
namespaces_from-more first zero (x ∷ xs) nsid d below = head_first (λ (n : FoundNamespace). n.namespace) (first == nsid) (nsid == first + 0) (made_namespace (first, x)) (grind (arith, nat_tests))
namespaces_from-more first (suc i) (x ∷ xs) nsid d below =
    let behind : i < length xs = omega arith in
    let same : (nsid == first + 1 + i) ≡ (nsid == first + suc i) = grind (arith, nat_tests) in
    let rest = namespaces_from-more (first + 1) i xs nsid d behind in
    head_before (λ (n : FoundNamespace). n.namespace) (first == nsid) (nsid == first + suc i) (made_namespace (first, x)) (made_as (get_or xs i d)) _ _ (λ e. grind (arith, nat_tests))
    (rest ∙ ap (λ b. cond b (Some (made_as (get_or xs i d))) (namespaces_from (first + 1) (take i xs) nsid)) same)

more_at : (made : List NamespaceConfig) (i nsid : ℕ) (d : NamespaceConfig) → i < length made → namespaces_from 1 (take (i + 1) made) nsid ≡ cond (nsid == i + 1) (Some (made_as (get_or made i d))) (namespaces_from 1 (take i made) nsid)
more_at made i nsid d below =
    let place : (nsid == 1 + i) ≡ (nsid == i + 1) = grind (arith, nat_tests) in
    let more : namespaces_from 1 (take (i + 1) made) nsid ≡ cond (nsid == 1 + i) (Some (made_as (get_or made i d))) (namespaces_from 1 (take i made) nsid) = rw add-one (namespaces_from-more 1 i made nsid d below) in
    more ∙ ap (λ b. cond b (Some (made_as (get_or made i d))) (namespaces_from 1 (take i made) nsid)) place

-- the first namespaces have places, and no block is there
pub record IsRoomy (g : Geometry) (made : List NamespaceConfig) (i : ℕ) (x : MapTable) : Type 0 where
  pub geometry : x.geometry ≡ g
  pub sizes : (nsid : ℕ) → size_in x nsid ≡ size_of_some (namespaces_from 1 (take i made) nsid)
  pub most : (nsid : ℕ) → size_in x nsid ≤ 262144
  pub absent : (nsid lba : ℕ) → mapped_at x nsid lba ≡ None

either-few : (b : Bool) (m n : ℕ) → m ≤ 262144 → n ≤ 262144 → cond b m n ≤ 262144
either-few true m n h k = h
either-few false m n h k = k

size_of-either : (b : Bool) (x : Namespace) (o : Option Namespace) → size_of_some (cond b (Some x) o) ≡ cond b x.size (size_of_some o)
size_of-either true x o = refl
size_of-either false x o = refl

pub roomy-next : (g : Geometry) (made : List NamespaceConfig) (i : ℕ) (old new : MapTable) (size : ℕ) (d : NamespaceConfig) → i < length made → size ≡ (get_or made i d).blocks → size ≤ 262144 → size_in new ≡ with_at (size_in old) (i + 1) size → mapped_at new ≡ mapped_at old → new.geometry ≡ old.geometry → IsRoomy g made i old → IsRoomy g made (i + 1) new
roomy-next g made i old new size d below is few put same cut h = record {
  geometry = cut ∙ h.geometry;
  sizes = λ nsid.
      ap (λ (f : ℕ → ℕ). f nsid) put
      ∙ ap (λ (m : ℕ). cond (nsid == i + 1) m (size_in old nsid)) is
      ∙ ap (λ (m : ℕ). cond (nsid == i + 1) (get_or made i d).blocks m) (h.sizes nsid)
      ∙ sym (size_of-either (nsid == i + 1) (made_as (get_or made i d)) (namespaces_from 1 (take i made) nsid))
      ∙ ap size_of_some (sym (more_at made i nsid d below));
  most = λ nsid. subst (λ (f : ℕ → ℕ). f nsid ≤ 262144) (sym put) (either-few (nsid == i + 1) size (size_in old nsid) few (h.most nsid));
  absent = λ nsid lba. ap (λ (f : ℕ → ℕ → Option _). f nsid lba) same ∙ h.absent nsid lba;
}

-- a namespace behind the first ones is none of them
pub unlisted : (made : List NamespaceConfig) (first i nsid : ℕ) → first + i ≤ nsid → namespaces_from first (take i made) nsid ≡ None
unlisted made first zero nsid past = refl
unlisted [] first (suc i) nsid past = refl
unlisted (x ∷ xs) first (suc i) nsid past =
    let other : (first == nsid) ≡ false = grind (arith, nat_tests) in
    rw other (unlisted xs (first + 1) i nsid (omega arith))

-- the budgets of all groups come to no more than the pages
pub budgets-few : (c : DriveConfig) → IsValidConfig c → (handles : ℕ) → full_budget c handles ≤ 262144
budgets-few c valid handles =
    let pages = mul-le c.unit_pages (c.units - 0 - 2 * handles - 3) c.unit_pages c.units (omega arith) (omega arith) in
    let one : budget_of c handles 0 ≤ c.unit_pages * c.units = omega (arith, pages) in
    let all = mul-le c.groups (budget_of c handles 0) c.groups (c.unit_pages * c.units) (omega arith) one in
    let units : c.groups * c.units ≤ all_units (geometry_of c) = omega arith in
    let whole = mul-le c.unit_pages (c.groups * c.units) c.unit_pages (all_units (geometry_of c)) (omega arith) units in
    let turned : c.groups * (c.unit_pages * c.units) ≡ c.unit_pages * (c.groups * c.units) = omega arith in
    omega (arith, all, turned, whole, valid.ranges.pages)

-- a namespace that a drive is made with has no more blocks than a drive has pages
pub blocks-few : (c : DriveConfig) → IsValidConfig c → (i : ℕ) (d : NamespaceConfig) → i < length c.namespaces → (get_or c.namespaces i d).blocks ≤ 262144
blocks-few c valid i d below =
    omega (arith, get_or-le-sum_by (λ (n : NamespaceConfig). n.blocks) c.namespaces i d below, valid.room.namespaces, budgets-few c valid (handle_count c c.enabled c.index))
