-- The namespaces that a drive is made with, put into their rows one after another.
use Rattle.std.proofs.Common.{◌≡◌, ℕ, zero, suc, ◌+◌, ◌<◌, Bool, true, false, cond, List, [], ◌∷◌, length, take, get_or, set, Option, None, Some, map, refl, ap, sym, ◌∙◌, arith, add-one}
use Rattle.std.specs.Prelude.{◌==◌, option_map, true, unwrap_or}
use Rattle.std.specs.List.{enumerate_from}
use Rattle.std.specs.Option.{option_flatten}
use Rattle.std.proofs.lemmas.Bool.Decides.{nat_tests}
use Rattle.fdp_base.specs.declared.config.NamespaceConfig.{NamespaceConfig}
use Rattle.fdp_rules.specs.History.{FoundNamespace, made_namespace, namespace_in}
use Rattle.fdp_rules.specs.PlainState.{Namespace}
use Rattle.fdp_tables.specs.declared.state.Space.{Space}
use Rattle.fdp_tables.specs.Spaces.{IsMade, block_in}
use Rattle.fdp_tables.specs.State.{namespace_of, row}
use Rattle.fdp_tables.proofs.Tables.{read-set}

-- the namespaces of these configurations, from an identifier on
abbrev pub from_on : ℕ → List NamespaceConfig → ℕ → Option Namespace
from_on first xs nsid = namespace_in (map made_namespace (enumerate_from first xs)) nsid

abbrev pub made_as : NamespaceConfig → Namespace
made_as x = (made_namespace (0, x)).namespace

-- the first namespaces are in their rows
pub record IsLaying (made : List NamespaceConfig) (i : ℕ) (rows : List (Option Space)) : Type 0 where
  pub count : length rows ≡ 17
  pub namespaces : (nsid : ℕ) → option_map namespace_of (row rows nsid) ≡ from_on 1 (take i made) nsid
  pub empty : (nsid lba : ℕ) → block_in (row rows nsid) lba ≡ None

head_first : {X Y : Type 0} (f : X → Y) (a b : Bool) (x : X) → a ≡ b → option_map f (cond a (Some x) None) ≡ cond b (Some (f x)) None
head_first f true true x e = refl
head_first f false false x e = refl
head_first f true false x e = cc
head_first f false true x e = cc

head_before : {X Y : Type 0} (f : X → Y) (a b : Bool) (x : X) (y : Y) (more less : Option X) → (a ≡ true → b ≡ false) → option_map f more ≡ cond b (Some y) (option_map f less) → option_map f (cond a (Some x) more) ≡ cond b (Some y) (option_map f (cond a (Some x) less))
head_before f true b x y more less apart e = let no : b ≡ false = apart refl in rw no refl
head_before f false b x y more less apart e = e

from_on_more : (first i : ℕ) (xs : List NamespaceConfig) (nsid : ℕ) (d : NamespaceConfig) → i < length xs → from_on first (take (suc i) xs) nsid ≡ cond (nsid == first + i) (Some (made_as (get_or xs i d))) (from_on first (take i xs) nsid)
from_on_more first i [] nsid d below = absurd (omega arith)
from_on_more first zero (x ∷ xs) nsid d below = head_first (λ (n : FoundNamespace). n.namespace) (first == nsid) (nsid == first + 0) (made_namespace (first, x)) (grind (arith, nat_tests))
from_on_more first (suc i) (x ∷ xs) nsid d below =
    let behind : i < length xs = omega arith in
    let same : (nsid == first + 1 + i) ≡ (nsid == first + suc i) = grind (arith, nat_tests) in
    let rest = from_on_more (first + 1) i xs nsid d behind in
    head_before (λ (n : FoundNamespace). n.namespace) (first == nsid) (nsid == first + suc i) (made_namespace (first, x)) (made_as (get_or xs i d)) _ _ (λ e. grind (arith, nat_tests))
    (rest ∙ ap (λ b. cond b (Some (made_as (get_or xs i d))) (from_on (first + 1) (take i xs) nsid)) same)

either_none : {X : Type 0} (b : Bool) (x y : Option X) → x ≡ None → y ≡ None → cond b x y ≡ None
either_none true x y e f = e
either_none false x y e f = f

no_block : (space : Space) (lba : ℕ) → row space.blocks lba ≡ None → block_in (Some space) lba ≡ None
no_block space lba e = rw e refl

pub laying_next : (made : List NamespaceConfig) (i : ℕ) (rows : List (Option Space)) (space : Space) (d : NamespaceConfig) → i < length made → i + 1 < length rows → IsMade space (get_or made i d).blocks true (unwrap_or (get_or made i d).handles []) 0 → length (set rows (i + 1) (Some space)) ≡ 17 → IsLaying made i rows → IsLaying made (i + 1) (set rows (i + 1) (Some space))
laying_next made i rows space d below there as_made count h = record {
  count = count;
  namespaces = λ nsid.
      let place : (nsid == i + 1) ≡ (nsid == 1 + i) = grind (arith, nat_tests) in
      let more : from_on 1 (take (i + 1) made) nsid ≡ cond (nsid == 1 + i) (Some (made_as (get_or made i d))) (from_on 1 (take i made) nsid) = rw add-one (from_on_more 1 i made nsid d below) in
      read-set (λ o. option_map namespace_of (option_flatten o)) rows (i + 1) (Some space) there nsid
      ∙ ap (λ n. cond (nsid == i + 1) (Some n) (option_map namespace_of (row rows nsid))) as_made.namespace
      ∙ ap (λ o. cond (nsid == i + 1) (Some (made_as (get_or made i d))) o) (h.namespaces nsid)
      ∙ ap (λ b. cond b (Some (made_as (get_or made i d))) (from_on 1 (take i made) nsid)) place
      ∙ sym more;
  empty = λ nsid lba.
      read-set (λ o. block_in (option_flatten o) lba) rows (i + 1) (Some space) there nsid
      ∙ either_none (nsid == i + 1) (block_in (Some space) lba) (block_in (row rows nsid) lba) (no_block space lba (as_made.empty lba)) (h.empty nsid lba);
}
