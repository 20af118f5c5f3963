-- The blocks that stand at a page, where those of its unit are known: none of these, or one.
use Rattle.std.proofs.Common.{◌≡◌, ◌≢◌, ⊎_elim, ℕ, zero, suc, ◌+◌, ◌<◌, ◌≤◌, Bool, true, false, cond, List, [], ◌∷◌, ◌++◌, Option, None, Some, flat_map, refl, sym, ◌∙◌, ap, arith}
use mathlib.Core.List.{append-nil}
use Rattle.std.specs.Prelude.{◌==◌, Contains, is_some, option_and_then, option_map}
use Rattle.std.specs.Option.{option_map_or}
use Rattle.std.proofs.lemmas.Bool.{and_parts, cases_eq, eqb-true, false≢true}
use Rattle.std.proofs.lemmas.Option.{slice_get_read}
use Rattle.fdp_base.specs.declared.entry.BlockName.{BlockName}
use Rattle.fdp_base.specs.declared.entry.Spot.{Spot}
use Rattle.fdp_base.specs.Numbers.{numbers_below, numbers_from}
use Rattle.fdp_rules.specs.PlainState.{Block}
use Rattle.fdp_rules.specs.Point.{Point}
use Rattle.fdp_rules.specs.Room.{namespace_ids, size_of}
use Rattle.fdp_rules.specs.Sites.{blocks_at, blocks_in, is_spot, site_of, stands_at}
use Rattle.fdp_tables.specs.declared.state.Kept.{Kept}
use Rattle.fdp_tables.specs.declared.state.KeptBlock.{KeptBlock}
use Rattle.fdp_tables.specs.declared.state.Space.{Space}
use Rattle.fdp_tables.specs.State.{block_of, namespace_of, plain_of, point_kept, row, site_at, space_at}
use Rattle.fdp_tables.proofs.Collecting.{filtered}
use Rattle.fdp_tables.proofs.Naming.{row_within}
use Rattle.fdp_plain_judge.specs.Judging.{EachIn}
use Rattle.fdp_plain_judge.specs.Passes.{AreInUnit, StandsAmong}

-- no piece of these numbers has anything
none_of : {Y : Type 0} (f : ℕ → List Y) (first count : ℕ) → ((j : ℕ) → first ≤ j → j < first + count → f j ≡ []) → flat_map f (numbers_from first count) ≡ []
unfolding numbers_from
none_of f first zero none = refl
none_of {Y} f first (suc count) none =
    ap (λ (ys : List Y). ys ++ flat_map f (numbers_from (first + 1) count)) (none first (omega arith) (omega arith)) ∙ none_of f (first + 1) count (λ j low high. none j (omega (arith, low)) (omega (arith, high)))

-- the piece of one number alone has anything
one_of : {Y : Type 0} (f : ℕ → List Y) (first count k : ℕ) → first ≤ k → k < first + count → ((j : ℕ) → first ≤ j → j < first + count → j ≢ k → f j ≡ []) → flat_map f (numbers_from first count) ≡ f k
unfolding numbers_from
one_of f first zero k low high none = absurd (omega (arith, low, high))
one_of {Y} f first (suc count) k low high none =
    let rest : List Y = flat_map f (numbers_from (first + 1) count) in
    let here : first ≡ k → f first ++ rest ≡ f k = λ is.
    let others : rest ≡ [] = none_of f (first + 1) count (λ j l h. let ne : j ≢ k = omega (arith, l, is) in none j (omega (arith, l)) (omega (arith, h)) ne) in
    ap (λ (ys : List Y). f first ++ ys) others ∙ append-nil (f first) ∙ ap f is in
    let later : first ≢ k → f first ++ rest ≡ f k = λ ne.
    ap (λ (ys : List Y). ys ++ rest) (none first (omega arith) (omega arith) ne) ∙ one_of f (first + 1) count k (omega (arith, low, ne)) (omega (arith, high)) (λ j l h. none j (omega (arith, l)) (omega (arith, h))) in
    ⊎_elim here later (cases_eq first k)

-- a block that stands somewhere lies in its namespace
within_space : (k : Kept) (nsid lba : ℕ) (spot : Spot) → site_of (point_kept k) nsid lba ≡ Some spot → lba < size_of (plain_of k) nsid
within_space k nsid lba spot e = of_space (space_at k nsid) e where
  of_block : (x : Space) (o : Option KeptBlock) → row x.blocks lba ≡ o → option_and_then (λ (b : Block). site_at k b.page) (option_map block_of o) ≡ Some spot → lba < option_map_or (λ s. s.size) (option_map namespace_of (Some x)) 0
  of_block x None is none = absurd (false≢true (ap is_some none))
  of_block x (Some b) is site = row_within x.blocks lba b is

  of_space : (o : Option Space) → option_and_then (λ (b : Block). site_at k b.page) (option_map block_of (option_and_then (λ x. row x.blocks lba) o)) ≡ Some spot → lba < option_map_or (λ s. s.size) (option_map namespace_of o) 0
  of_space None none = absurd (false≢true (ap is_some none))
  of_space (Some x) site = of_block x (row x.blocks lba) refl site

module _ (k : Kept) (spot : Spot) (list : List (BlockName × Spot)) (known : AreInUnit (point_kept k) spot.unit 17 list) where
  abbrev P : Point
  P = point_kept k

  abbrev test : ℕ → ℕ → Bool
  test nsid lba = stands_at (site_of P nsid lba) spot

  -- what stands at the page is known
  found : (nsid lba : ℕ) → 1 ≤ nsid → nsid < 17 → test nsid lba ≡ true → (site : Spot) × Contains list (record { nsid = nsid; lba = lba }, site) × (is_spot spot site ≡ true)
  found nsid lba low high stands = of_site (site_of P nsid lba) refl stands where
    of_site : (o : Option Spot) → site_of P nsid lba ≡ o → stands_at o spot ≡ true → (site : Spot) × Contains list (record { nsid = nsid; lba = lba }, site) × (is_spot spot site ≡ true)
    of_site None e no_spot = absurd (false≢true no_spot)
    of_site (Some site) e is =
        let unit : spot.unit ≡ site.unit = eqb-true spot.unit site.unit (and_parts (spot.unit == site.unit) (spot.page == site.page) is).0 in
        (site, known.all nsid lba site low high e (sym unit), is)

  is_false : (b : Bool) → (b ≡ true → ⊥) → b ≡ false
  is_false true h = absurd (h refl)
  is_false false h = refl

  as_pieces : (nsid : ℕ) → blocks_in P spot nsid ≡ flat_map (λ lba. cond (test nsid lba) (record { nsid = nsid; lba = lba } ∷ []) []) (numbers_below (size_of P.state nsid))
  as_pieces nsid = filtered (λ lba. record { nsid = nsid; lba = lba }) (test nsid) (numbers_below (size_of P.state nsid))

  -- a namespace without a block there
  empty_space : (nsid : ℕ) → ((lba : ℕ) → test nsid lba ≡ true → ⊥) → blocks_in P spot nsid ≡ []
  empty_space nsid none =
      as_pieces nsid ∙ none_of (λ lba. cond (test nsid lba) (record { nsid = nsid; lba = lba } ∷ []) []) 0 (size_of P.state nsid) (λ lba low high. ap (λ b. cond b (record { nsid = nsid; lba = lba } ∷ []) []) (is_false (test nsid lba) (none lba)))

  contained : (Q : BlockName × Spot → Type 0) → EachIn Q list → (x : BlockName × Spot) → Contains list x → Q x
  contained Q each x h = each h.0 x (slice_get_read list _ h.0 x refl h.1 (sym h.2))

  -- where none of the known blocks stands at the page, no block does
  pub page_empty : EachIn (λ x. is_spot spot x.1 ≡ false) list → blocks_at P spot ≡ []
  unfolding namespace_ids
  page_empty none =
      none_of (blocks_in P spot) 1 16 (λ nsid low high. empty_space nsid (λ lba stands.
      let one : (site : Spot) × Contains list (record { nsid = nsid; lba = lba }, site) × (is_spot spot site ≡ true) = found nsid lba low high stands in
      false≢true (sym (contained (λ x. is_spot spot x.1 ≡ false) none _ one.1) ∙ one.2)))

  -- where one of them does alone, it is the block of the page
  pub page_alone : (block : BlockName) → StandsAmong list spot block → EachIn (λ x. is_spot spot x.1 ≡ true → x.0 ≡ block) list → blocks_at P spot ≡ block ∷ []
  unfolding namespace_ids
  page_alone block stands same =
      let space : (1 ≤ block.nsid) × (block.nsid < 17) = known.spaces (block, stands.0) stands.1 in
      let site : site_of P block.nsid block.lba ≡ Some stands.0 = known.there (block, stands.0) stands.1 in
      let here : test block.nsid block.lba ≡ true = ap (λ o. stands_at o spot) site ∙ stands.2 in
      let only : (nsid lba : ℕ) → 1 ≤ nsid → nsid < 17 → test nsid lba ≡ true → record { nsid = nsid; lba = lba } ≡ block = λ nsid lba low high there.
      let one : (site : Spot) × Contains list (record { nsid = nsid; lba = lba }, site) × (is_spot spot site ≡ true) = found nsid lba low high there in
      contained (λ x. is_spot spot x.1 ≡ true → x.0 ≡ block) same _ one.1 one.2 in
      let within : block.lba < size_of P.state block.nsid = within_space k block.nsid block.lba stands.0 site in
      one_of (blocks_in P spot) 1 16 block.nsid space.0 space.1
      (λ nsid low high ne. empty_space nsid (λ lba there. ne (ap (λ (b : BlockName). b.nsid) (only nsid lba low high there))))
      ∙ as_pieces block.nsid
      ∙ one_of (λ lba. cond (test block.nsid lba) (record { nsid = block.nsid; lba = lba } ∷ []) []) 0 (size_of P.state block.nsid) block.lba (omega arith) (omega (arith, within))
      (λ lba low high ne. ap (λ b. cond b (record { nsid = block.nsid; lba = lba } ∷ []) []) (is_false (test block.nsid lba) (λ there. ne (ap (λ (b : BlockName). b.lba) (only block.nsid lba space.0 space.1 there)))))
      ∙ ap (λ b. cond b (block ∷ []) []) here
