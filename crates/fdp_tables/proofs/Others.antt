-- The blocks of a namespace that lie in a group, but for some in a row.
use Rattle.std.proofs.Common.{◌≡◌, ◌≢◌, ℕ, ◌-◌, ◌≤◌, Bool, true, false, List, Option, None, Some, length, refl, sym, ap, ◌∙◌, arith, eq-eqb, ne_eqb}
use Rattle.std.specs.Prelude.{not, ◌&&◌, ◌==◌, count_by, option_map}
use Rattle.std.specs.Option.{option_and_then, option_map_or}
use Rattle.fdp_base.specs.Numbers.{count_below, is_among}
use Rattle.fdp_base.proofs.Sums.{count_from-none, count_from-same}
use Rattle.fdp_rules.specs.Room.{lies_in, size_of}
use Rattle.fdp_tables.specs.declared.state.Kept.{Kept}
use Rattle.fdp_tables.specs.declared.state.KeptBlock.{KeptBlock}
use Rattle.fdp_tables.specs.declared.state.Space.{Space}
use Rattle.fdp_tables.specs.Blocks.{lies_at}
use Rattle.fdp_tables.specs.State.{block_of, namespace_of, plain_of, row, space_at}
use Rattle.fdp_tables.proofs.Lying.{lying, lying_among, others-counted, places-counted}

-- the test of a block that lies in a group, and is none of some
abbrev pub is_other : Kept → (nsid rg except slba count : ℕ) → ℕ → Bool
is_other k nsid rg except slba count lba = lies_in rg ((plain_of k).blocks nsid lba) && not (nsid == except && is_among slba count lba)

abbrev pub others : Kept → (nsid rg except slba count : ℕ) → ℕ
others k nsid rg except slba count = count_below (size_of (plain_of k) nsid) (is_other k nsid rg except slba count)

-- a block lies where its place says
same-group : (rg : ℕ) (o : Option KeptBlock) → lies_in rg (option_map block_of o) ≡ lies_at rg o
same-group rg None = refl
same-group rg (Some b) = refl

pub few-others : (rg : ℕ) (places : List (Option KeptBlock)) (slba count among all : ℕ) → all ≡ count_by (lies_at rg) places → among ≡ count_below (length places) (lying_among rg places slba count) → among ≤ all
few-others rg places slba count among all is some = omega (arith, is, some, others-counted rg places slba count)

module _ (k : Kept) (nsid rg except slba count : ℕ) where
  -- what the places of a namespace that is there say
  in-space : (space : Option Space) → (lba : ℕ) → lies_in rg (option_map block_of (option_and_then (λ (x : Space). row x.blocks lba) space)) ≡ option_map_or (λ (x : Space). lying rg x.blocks lba) space false
  in-space None lba = refl
  in-space (Some x) lba = same-group rg (row x.blocks lba)

  lies-there : (x : Space) → Some x ≡ space_at k nsid → (lba : ℕ) → lies_in rg ((plain_of k).blocks nsid lba) ≡ lying rg x.blocks lba
  lies-there x is lba = in-space (space_at k nsid) lba ∙ ap (λ (o : Option Space). option_map_or (λ (y : Space). lying rg y.blocks lba) o false) (sym is)

  size-there : (x : Space) → Some x ≡ space_at k nsid → size_of (plain_of k) nsid ≡ length x.blocks
  size-there x is = ap (λ (o : Option Space). option_map_or (λ n. n.size) (option_map namespace_of o) 0) (sym is)

  by-places : (x : Space) → Some x ≡ space_at k nsid → (test : ℕ → Bool) → ((lba : ℕ) → is_other k nsid rg except slba count lba ≡ test lba) → others k nsid rg except slba count ≡ count_below (length x.blocks) test
  by-places x is test same =
      ap (λ (n : ℕ). count_below n (is_other k nsid rg except slba count)) (size-there x is)
      ∙ count_from-same (is_other k nsid rg except slba count) test 0 (length x.blocks) (λ i low high. same i)

  pub some-others : (x : Space) (among all : ℕ) → Some x ≡ space_at k nsid → nsid ≡ except → all ≡ count_by (lies_at rg) x.blocks → among ≡ count_below (length x.blocks) (lying_among rg x.blocks slba count)
      → all - among ≡ others k nsid rg except slba count
  some-others x among all is same whole some =
      let one : (nsid == except) ≡ true = eq-eqb nsid except same in
      let test : ℕ → Bool = λ lba. lying rg x.blocks lba && not (is_among slba count lba) in
      let told = by-places x is test (λ lba. ap (λ (b : Bool). b && not (nsid == except && is_among slba count lba)) (lies-there x is lba) ∙ ap (λ (b : Bool). lying rg x.blocks lba && not (b && is_among slba count lba)) one) in
      omega (arith, told, whole, some, others-counted rg x.blocks slba count)

  pub all-others : (x : Space) (all : ℕ) → Some x ≡ space_at k nsid → nsid ≢ except → all ≡ count_by (lies_at rg) x.blocks → all ≡ others k nsid rg except slba count
  all-others x all is other whole =
      let none : (nsid == except) ≡ false = ne_eqb nsid except other in
      let told = by-places x is (lying rg x.blocks) (λ lba.
      ap (λ (b : Bool). b && not (nsid == except && is_among slba count lba)) (lies-there x is lba)
      ∙ ap (λ (b : Bool). lying rg x.blocks lba && not (b && is_among slba count lba)) none ∙ with-true (lying rg x.blocks lba)) in
      whole ∙ places-counted rg x.blocks ∙ sym told where
        with-true : (b : Bool) → (b && true) ≡ b
        with-true true = refl
        with-true false = refl

  pub no-others : None ≡ space_at k nsid → 0 ≡ others k nsid rg except slba count
  no-others is =
      let none : size_of (plain_of k) nsid ≡ 0 = ap (λ (o : Option Space). option_map_or (λ n. n.size) (option_map namespace_of o) 0) (sym is) in
      sym (ap (λ (n : ℕ). count_below n (is_other k nsid rg except slba count)) none ∙ count_from-none (is_other k nsid rg except slba count) 0)
