-- Pages that blocks are given, one after another.
use Rattle.std.proofs.Common.{◌≡◌, ◌≢◌, ℕ, ◌+◌, ◌-◌, ◌<◌, ◌≤◌, Bool, true, false, List, length, get_or, take, Option, Some, None, refl, sym, ap, subst, ◌∙◌, arith, ⊎_elim}
use Rattle.std.specs.Prelude.{◌==◌, ◌&&◌, ◌||◌, if◌then◌else◌, slice_get}
use Rattle.std.proofs.lemmas.Bool.Decides.{eqb_tells, nat_tests}
use Rattle.std.proofs.lemmas.List.{take_all}
use Rattle.std.proofs.lemmas.Option.{get_or_from_slice_get, slice_get-get_or}
use Rattle.std.proofs.lemmas.List.Folds.{list_any_more}
use Rattle.std.proofs.lemmas.List.Sums.{fold_more}
use Rattle.fdp_base.specs.declared.command.Range.{Range}
use Rattle.fdp_base.specs.declared.entry.BlockName.{BlockName}
use Rattle.fdp_base.specs.Numbers.{is_among}
use Rattle.fdp_rules.specs.Effect.{is_in_ranges}
use Rattle.fdp_image.specs.Checkpoint.{page_in_lists, reading_of_state}
use Rattle.fdp_image.specs.Reading.{size_in}
use Rattle.fdp_state.specs.declared.parts.Parts.{Parts}
use Rattle.fdp_state.specs.Made.{HasPages}
use Rattle.fdp_state.specs.Owners.{AreOwners, Pages, with_page, with_pages, with_row, without_ranges}
use Rattle.fdp_state.specs.Parts.{IsSound, listed, reading_of}
use Rattle.fdp_state.proofs.Owning.{block, owners-as, with-page}

-- ---- a block

abbrev page-step : BlockName → Option ℕ → ℕ → ℕ → Option ℕ → Option ℕ
page-step b page n l o = if n == b.nsid && l == b.lba then page else o

page-twice : (pages : Pages) (b : BlockName) (page other : Option ℕ) (n l : ℕ) → with_page pages b page n l ≡ with_page (with_page pages b other) b page n l
page-twice pages b page other n l = of_test (n == b.nsid && l == b.lba) where
  of_test : (t : Bool) → (if t then page else pages n l) ≡ (if t then page else (if t then other else pages n l))
  of_test true = refl
  of_test false = refl

-- the parts with other pages of the blocks
module _ (old new : Parts) (rest : new ≡ record old { pages = new.pages; owners = new.owners }) where
  pub put-size : (n : ℕ) → size_in (reading_of new) n ≡ size_in (reading_of old) n
  unfolding reading_of_state
  put-size n = ap (λ (p : Parts). size_in (reading_of p) n) rest

  put-sound : IsSound old → length new.pages.items ≡ 16 → ((n : ℕ) → listed new.pages.items n ≡ listed old.pages.items n) → AreOwners (page_in_lists new.pages.items) new.owners.items → IsSound new
  put-sound h lists sizes owners = record {
    lists = lists;
    sizes = λ n. sizes n ∙ h.sizes n ∙ sym (put-size n);
    owners = owners;
  }

  -- another page for a block
  pub one-put : (b : BlockName) (page : Option ℕ) → IsSound old → length new.pages.items ≡ 16 → ((n : ℕ) → listed new.pages.items n ≡ listed old.pages.items n)
      → ((n l : ℕ) → page_in_lists new.pages.items n l ≡ with_page (page_in_lists old.pages.items) b page n l)
      → AreOwners (with_page (with_page (page_in_lists old.pages.items) b None) b page) new.owners.items → HasPages old new (with_page (page_in_lists old.pages.items) b page)
  one-put b page h lists sizes said owners = record {
    rest = rest;
    said = said;
    sizes = sizes;
    sound =
        put-sound h lists sizes
        (owners-as _ (page_in_lists new.pages.items) new.owners.items (λ n l. said n l ∙ page-twice (page_in_lists old.pages.items) b page None n l) owners);
  }

-- ---- one after another

pub none-put : (s : Parts) (pages : Pages) → IsSound s → ((n l : ℕ) → page_in_lists s.pages.items n l ≡ pages n l) → HasPages s s pages
none-put s pages h same = record { rest = refl; said = same; sizes = λ n. refl; sound = h }

pub more-put : (old mid new : Parts) (step : ℕ → ℕ → Option ℕ → Option ℕ) (before after : Pages) → HasPages old mid before → HasPages mid new (λ n l. step n l (page_in_lists mid.pages.items n l))
    → ((n l : ℕ) → step n l (before n l) ≡ after n l) → HasPages old new after
more-put old mid new step before after p q same = record {
  rest = q.rest ∙ ap (λ (x : Parts). record x { pages = new.pages; owners = new.owners }) p.rest;
  said = λ n l. q.said n l ∙ ap (step n l) (p.said n l) ∙ same n l;
  sizes = λ n. q.sizes n ∙ p.sizes n;
  sound = q.sound;
}

pub as-put : (old new : Parts) (pages after : Pages) → ((n l : ℕ) → pages n l ≡ after n l) → HasPages old new pages → HasPages old new after
as-put old new pages after same h = record { rest = h.rest; said = λ n l. h.said n l ∙ same n l; sizes = h.sizes; sound = h.sound }

-- ---- addresses in a row

none-among : (first k : ℕ) → is_among first 0 k ≡ false
none-among first k = grind (arith, nat_tests)

last-among : (first i : ℕ) → is_among first (i + 1) (first + i) ≡ true
last-among first i = grind (arith, nat_tests)

other-among : (first i k : ℕ) → k ≢ first + i → is_among first (i + 1) k ≡ is_among first i k
other-among first i k ne = grind (arith, nat_tests)

and_false : (b : Bool) → (b && false) ≡ false
and_false true = refl
and_false false = refl

module _ (value : ℕ → Option ℕ) (pages : Pages) (nsid first : ℕ) where
  row-none : (n l : ℕ) → pages n l ≡ with_row value pages nsid first 0 n l
  row-none n l = sym (ap (λ (b : Bool). if n == nsid && b then value l else pages n l) (none-among first l) ∙ ap (λ (b : Bool). if b then value l else pages n l) (and_false (n == nsid)))

  row-more : (i : ℕ) (x : Option ℕ) (n l : ℕ) → x ≡ value (first + i) → with_page (with_row value pages nsid first i) (block nsid (first + i)) x n l ≡ with_row value pages nsid first (i + 1) n l
  row-more i x n l is =
      with-page (with_row value pages nsid first i) (block nsid (first + i)) x n l (λ (o : Option ℕ). o ≡ with_row value pages nsid first (i + 1) n l)
      (λ (e : (n ≡ nsid) × (l ≡ first + i)).
      let test : (n == nsid && is_among first (i + 1) l) ≡ true = grind (arith, nat_tests) in
      is ∙ ap value (sym e.1) ∙ sym (ap (λ (b : Bool). if b then value l else pages n l) test))
      (λ no.
      ⊎_elim
      (λ (e : (n == nsid ≡ true) × (n ≡ nsid)).
      let ne : l ≢ first + i = λ (k : l ≡ first + i). no (e.1, k) in
      ap (λ (b : Bool). if n == nsid && b then value l else pages n l) (sym (other-among first i l ne)))
      (λ (e : (n == nsid ≡ false) × (n ≢ nsid)).
      ap (λ (b : Bool). if b && is_among first i l then value l else pages n l) e.0
      ∙ sym (ap (λ (b : Bool). if b && is_among first (i + 1) l then value l else pages n l) e.0))
      (eqb_tells n nsid))

pub row-start : (s : Parts) (value : ℕ → Option ℕ) (nsid first : ℕ) → IsSound s → HasPages s s (with_row value (page_in_lists s.pages.items) nsid first 0)
row-start s value nsid first h = none-put s (with_row value (page_in_lists s.pages.items) nsid first 0) h (row-none value (page_in_lists s.pages.items) nsid first)

pub row-next : (old mid new : Parts) (value : ℕ → Option ℕ) (nsid first i : ℕ) (x : Option ℕ) → x ≡ value (first + i) → HasPages old mid (with_row value (page_in_lists old.pages.items) nsid first i)
    → HasPages mid new (with_page (page_in_lists mid.pages.items) (block nsid (first + i)) x) → HasPages old new (with_row value (page_in_lists old.pages.items) nsid first (i + 1))
row-next old mid new value nsid first i x is p q =
    more-put old mid new (page-step (block nsid (first + i)) x) (with_row value (page_in_lists old.pages.items) nsid first i) (with_row value (page_in_lists old.pages.items) nsid first (i + 1)) p q
    (λ n l. row-more value (page_in_lists old.pages.items) nsid first i x n l is)

pub row-all : (old new : Parts) (value : ℕ → Option ℕ) (nsid first i count : ℕ) → i ≡ count → HasPages old new (with_row value (page_in_lists old.pages.items) nsid first i) → HasPages old new (with_row value (page_in_lists old.pages.items) nsid first count)
row-all old new value nsid first i count all h = subst (λ (k : ℕ). HasPages old new (with_row value (page_in_lists old.pages.items) nsid first k)) all h

-- the value of an address is the element at its place
pub row-value : (xs : List ℕ) (first i : ℕ) → i < length xs → Some (get_or xs i 0) ≡ slice_get xs (first + i - first)
row-value xs first i there = let place : first + i - first ≡ i = omega arith in sym (ap (slice_get xs) place ∙ slice_get-get_or xs i 0 there)

-- ---- ranges of addresses

ranges-none : (pages : Pages) (nsid : ℕ) (ranges : List Range) (n l : ℕ) → pages n l ≡ without_ranges pages nsid (take 0 ranges) n l
ranges-none pages nsid ranges n l = sym (ap (λ (b : Bool). if b then None else pages n l) (and_false (n == nsid)))

pub ranges-start : (s : Parts) (nsid : ℕ) (ranges : List Range) → IsSound s → HasPages s s (without_ranges (page_in_lists s.pages.items) nsid (take 0 ranges))
ranges-start s nsid ranges h = none-put s (without_ranges (page_in_lists s.pages.items) nsid (take 0 ranges)) h (ranges-none (page_in_lists s.pages.items) nsid ranges)

both-ways : (a b d : Bool) (x : Option ℕ) → (if a && d then None else (if a && b then None else x)) ≡ (if a && (b || d) then None else x)
both-ways true true true x = refl
both-ways true true false x = refl
both-ways true false true x = refl
both-ways true false false x = refl
both-ways false b d x = refl

pub ranges-next : (old mid new : Parts) (nsid : ℕ) (ranges : List Range) (i : ℕ) (r : Range) → i < length ranges → r ≡ get_or ranges i r → HasPages old mid (without_ranges (page_in_lists old.pages.items) nsid (take i ranges))
    → HasPages mid new (with_row (λ lba. None) (page_in_lists mid.pages.items) nsid r.slba r.length) → HasPages old new (without_ranges (page_in_lists old.pages.items) nsid (take (i + 1) ranges))
ranges-next old mid new nsid ranges i r there is p q =
    let pages : Pages = page_in_lists old.pages.items in
    more-put old mid new (λ n l o. if n == nsid && is_among r.slba r.length l then None else o) (without_ranges pages nsid (take i ranges)) (without_ranges pages nsid (take (i + 1) ranges)) p q
    (λ n l.
    both-ways (n == nsid) (is_in_ranges (take i ranges) l) (is_among r.slba r.length l) (pages n l)
    ∙ ap (λ (x : Range). if n == nsid && (is_in_ranges (take i ranges) l || is_among x.slba x.length l) then None else pages n l) is
    ∙ sym (ap (λ (b : Bool). if n == nsid && b then None else pages n l) (list_any_more (λ (x : Range). is_among x.slba x.length l) ranges i r there)))

pub ranges-all : (old new : Parts) (nsid : ℕ) (ranges : List Range) (i : ℕ) → length ranges ≤ i → HasPages old new (without_ranges (page_in_lists old.pages.items) nsid (take i ranges))
    → HasPages old new (without_ranges (page_in_lists old.pages.items) nsid ranges)
ranges-all old new nsid ranges i past h = subst (λ (xs : List Range). HasPages old new (without_ranges (page_in_lists old.pages.items) nsid xs)) (take_all i ranges past) h

-- an element is the same whatever stands for none
pub any-default : {X : Type 0} (xs : List X) (i : ℕ) (d e : X) → i < length xs → get_or xs i d ≡ get_or xs i e
any-default xs i d e there = sym (get_or_from_slice_get xs i (get_or xs i d) e (slice_get-get_or xs i d there))

-- ---- blocks with their pages

pub pages-start : (s : Parts) (blocks : List (BlockName × ℕ)) → IsSound s → HasPages s s (with_pages (page_in_lists s.pages.items) (take 0 blocks))
pages-start s blocks h = none-put s (with_pages (page_in_lists s.pages.items) (take 0 blocks)) h (λ n l. refl)

pub pages-next : (old mid new : Parts) (blocks : List (BlockName × ℕ)) (i : ℕ) (x : BlockName × ℕ) → i < length blocks → x ≡ get_or blocks i x
    → HasPages old mid (with_pages (page_in_lists old.pages.items) (take i blocks)) → HasPages mid new (with_page (page_in_lists mid.pages.items) x.0 (Some x.1))
    → HasPages old new (with_pages (page_in_lists old.pages.items) (take (i + 1) blocks))
pages-next old mid new blocks i x there is p q =
    let pages : Pages = page_in_lists old.pages.items in
    let next : with_pages pages (take (i + 1) blocks) ≡ with_page (with_pages pages (take i blocks)) x.0 (Some x.1) =
    fold_more (λ (f : Pages) (y : BlockName × ℕ). with_page f y.0 (Some y.1)) pages blocks i x there ∙ ap (λ (y : BlockName × ℕ). with_page (with_pages pages (take i blocks)) y.0 (Some y.1)) (sym is) in
    more-put old mid new (page-step x.0 (Some x.1)) (with_pages pages (take i blocks)) (with_pages pages (take (i + 1) blocks)) p q (λ n l. sym (ap (λ (f : Pages). f n l) next))

pub pages-all : (old new : Parts) (blocks : List (BlockName × ℕ)) (i : ℕ) → length blocks ≤ i → HasPages old new (with_pages (page_in_lists old.pages.items) (take i blocks)) → HasPages old new (with_pages (page_in_lists old.pages.items) blocks)
pages-all old new blocks i past h = subst (λ (xs : List (BlockName × ℕ)). HasPages old new (with_pages (page_in_lists old.pages.items) xs)) (take_all i blocks past) h
