-- The way back from pages to blocks, as blocks come and go.
use Rattle.std.proofs.Common.{◌≡◌, ◌≢◌, ℕ, zero, suc, ◌+◌, ◌<◌, ◌≤◌, ◌++◌, Bool, true, false, List, [], ◌∷◌, length, set, Option, Some, None, refl, sym, ap, subst, ◌∙◌, arith, ⊎_elim}
use Rattle.std.specs.Prelude.{◌==◌, ◌&&◌, if◌then◌else◌, slice_get}
use Rattle.std.proofs.lemmas.Bool.{cases_lt}
use Rattle.std.proofs.lemmas.Bool.Decides.{eqb_tells, nat_tests}
use Rattle.std.proofs.lemmas.Option.{slice_get_within}
use Rattle.fdp_base.specs.declared.entry.BlockName.{BlockName}
use Rattle.fdp_flash.proofs.Lists.{slice_get-set_other, slice_get-set_same}
use Rattle.fdp_state.specs.declared.owners.Owner.{Owner}
use Rattle.fdp_state.specs.declared.owners.Owner.TheVariants as owned
use Rattle.fdp_state.specs.Owners.{AreOwners, IsOwner, Pages, claimed, is_before, pages_before, released, with_page}

-- one block is another
abbrev IsBlock : BlockName → ℕ → ℕ → Type 0
IsBlock b nsid lba = (nsid ≡ b.nsid) × (lba ≡ b.lba)

-- what holds of the page that a block was given, and of those of the others
pub with-page : (pages : Pages) (b : BlockName) (page : Option ℕ) (nsid lba : ℕ) (P : Option ℕ → Type 0) → (IsBlock b nsid lba → P page) → ((IsBlock b nsid lba → ⊥) → P (pages nsid lba)) → P (with_page pages b page nsid lba)
with-page pages b page nsid lba P here there =
    ⊎_elim
    (λ (h : (nsid == b.nsid ≡ true) × (nsid ≡ b.nsid)).
    ⊎_elim
    (λ (k : (lba == b.lba ≡ true) × (lba ≡ b.lba)).
    let test : (nsid == b.nsid && lba == b.lba) ≡ true = ap (λ (t : Bool). t && lba == b.lba) h.0 ∙ k.0 in
    subst (λ (t : Bool). P (if t then page else pages nsid lba)) (sym test) (here (h.1, k.1)))
    (λ (k : (lba == b.lba ≡ false) × (lba ≢ b.lba)).
    let test : (nsid == b.nsid && lba == b.lba) ≡ false = ap (λ (t : Bool). t && lba == b.lba) h.0 ∙ k.0 in
    subst (λ (t : Bool). P (if t then page else pages nsid lba)) (sym test) (there (λ (e : IsBlock b nsid lba). k.1 e.1)))
    (eqb_tells lba b.lba))
    (λ (h : (nsid == b.nsid ≡ false) × (nsid ≢ b.nsid)).
    let test : (nsid == b.nsid && lba == b.lba) ≡ false = ap (λ (t : Bool). t && lba == b.lba) h.0 in
    subst (λ (t : Bool). P (if t then page else pages nsid lba)) (sym test) (there (λ (e : IsBlock b nsid lba). h.1 e.0)))
    (eqb_tells nsid b.nsid)

pub with-page-here : (pages : Pages) (b : BlockName) (page : Option ℕ) → with_page pages b page b.nsid b.lba ≡ page
with-page-here pages b page = with-page pages b page b.nsid b.lba (λ (o : Option ℕ). o ≡ page) (λ e. refl) (λ no. absurd (no (refl, refl)))

pub with-page-other : (pages : Pages) (b : BlockName) (page : Option ℕ) (nsid lba : ℕ) → (IsBlock b nsid lba → ⊥) → with_page pages b page nsid lba ≡ pages nsid lba
with-page-other pages b page nsid lba other = with-page pages b page nsid lba (λ (o : Option ℕ). o ≡ pages nsid lba) (λ e. absurd (other e)) (λ _. refl)

-- ---- one page

-- a page that the block neither had nor has
owner-kept : (pages : Pages) (b : BlockName) (page : Option ℕ) (q : ℕ) (x : Owner) → page ≢ Some q → pages b.nsid b.lba ≢ Some q → IsOwner pages q x → IsOwner (with_page pages b page) q x
owner-kept pages b page q owned.Free new old h = λ nsid lba. with-page pages b page nsid lba (λ (o : Option ℕ). o ≢ Some q) (λ e. new) (λ no. h nsid lba)
owner-kept pages b page q (owned.Held d) new old h = record {
  there =
      with-page-other pages b page d.nsid d.lba
      (λ (e : IsBlock b d.nsid d.lba). old (ap (λ (n : ℕ). pages n b.lba) (sym e.0) ∙ ap (λ (n : ℕ). pages d.nsid n) (sym e.1) ∙ h.there))
      ∙ h.there;
  alone = λ nsid lba.
      with-page pages b page nsid lba (λ (o : Option ℕ). o ≡ Some q → (nsid ≡ d.nsid) × (lba ≡ d.lba)) (λ e at. absurd (new at)) (λ no at. h.alone nsid lba at);
}
owner-kept pages b page q owned.Shared new old h = tt

-- a page that the block gets
owner-claimed : (pages : Pages) (b : BlockName) (page : ℕ) (x : Owner) → IsOwner pages page x → IsOwner (with_page pages b (Some page)) page (claimed x b)
owner-claimed pages b page owned.Free h = record {
  there = with-page-here pages b (Some page);
  alone = λ nsid lba.
      with-page pages b (Some page) nsid lba (λ (o : Option ℕ). o ≡ Some page → (nsid ≡ b.nsid) × (lba ≡ b.lba)) (λ e at. e) (λ no at. absurd (h nsid lba at));
}
owner-claimed pages b page (owned.Held d) h = tt
owner-claimed pages b page owned.Shared h = tt

-- a page that the block leaves
owner-released : (pages : Pages) (b : BlockName) (page : ℕ) (x : Owner) → pages b.nsid b.lba ≡ Some page → IsOwner pages page x → IsOwner (with_page pages b None) page (released x)
owner-released pages b page owned.Free was h = λ nsid lba. with-page pages b None nsid lba (λ (o : Option ℕ). o ≢ Some page) (λ e none. cc) (λ no. h nsid lba)
owner-released pages b page (owned.Held d) was h = λ nsid lba.
    let same = h.alone b.nsid b.lba was in
    with-page pages b None nsid lba (λ (o : Option ℕ). o ≢ Some page) (λ e none. cc)
    (λ no at. let is = h.alone nsid lba at in no (is.0 ∙ sym same.0, is.1 ∙ sym same.1))
owner-released pages b page owned.Shared was h = tt

-- ---- the table

-- a page of the table with another owner
owner-set : (pages after : Pages) (owners : List Owner) (page : ℕ) (y : Owner) → page < length owners → ((q : ℕ) (x : Owner) → q ≢ page → slice_get owners q ≡ Some x → IsOwner after q x) → IsOwner after page y
    → AreOwners after (set owners page y)
owner-set pages after owners page y there others here = record {
  each = λ q x at.
      ⊎_elim
      (λ (h : (q == page ≡ true) × (q ≡ page)).
      let e : Some x ≡ Some y = sym at ∙ ap (slice_get (set owners page y)) h.1 ∙ slice_get-set_same owners page y there in
      let same : y ≡ x = cc in
      subst (λ (k : ℕ). IsOwner after k x) (sym h.1) (subst (IsOwner after page) same here))
      (λ (h : (q == page ≡ false) × (q ≢ page)). others q x h.1 (sym (slice_get-set_other owners page q y h.1) ∙ at))
      (eqb_tells q page);
}

some-other : (page q : ℕ) → q ≢ page → Some page ≢ Some q
some-other page q ne e = let same : page ≡ q = cc in ne (sym same)

none-some : {X : Type 0} (o : Option X) (x : X) → o ≡ None → o ≢ Some x
none-some o x none some = let e : None ≡ Some x = sym none ∙ some in cc

pub owners-claimed : (pages : Pages) (owners : List Owner) (b : BlockName) (page : ℕ) (x : Owner) → slice_get owners page ≡ Some x → pages b.nsid b.lba ≡ None → AreOwners pages owners
    → AreOwners (with_page pages b (Some page)) (set owners page (claimed x b))
owners-claimed pages owners b page x at none h =
    owner-set pages (with_page pages b (Some page)) owners page (claimed x b) (slice_get_within owners page x at)
    (λ q y ne is. owner-kept pages b (Some page) q y (some-other page q ne) (none-some (pages b.nsid b.lba) q none) (h.each q y is))
    (owner-claimed pages b page x (h.each page x at))

pub owners-released : (pages : Pages) (owners : List Owner) (b : BlockName) (page : ℕ) (x : Owner) → slice_get owners page ≡ Some x → pages b.nsid b.lba ≡ Some page → AreOwners pages owners
    → AreOwners (with_page pages b None) (set owners page (released x))
owners-released pages owners b page x at was h =
    owner-set pages (with_page pages b None) owners page (released x) (slice_get_within owners page x at)
    (λ q y ne is.
    owner-kept pages b None q y (λ (e : None ≡ Some q). cc) (λ (e : pages b.nsid b.lba ≡ Some q). some-other page q ne (sym was ∙ e)) (h.each q y is))
    (owner-released pages b page x was (h.each page x at))

-- pages beyond the table
pub owners-beyond : (pages : Pages) (owners : List Owner) (b : BlockName) (page : Option ℕ) → ((q : ℕ) (x : Owner) → slice_get owners q ≡ Some x → page ≢ Some q) → ((q : ℕ) (x : Owner) → slice_get owners q ≡ Some x → pages b.nsid b.lba ≢ Some q)
    → AreOwners pages owners → AreOwners (with_page pages b page) owners
owners-beyond pages owners b page new old h = record { each = λ q x at. owner-kept pages b page q x (new q x at) (old q x at) (h.each q x at) }

-- a block that had no page still has none, or had one beyond the table
pub claimed-none : (pages : Pages) (owners : List Owner) (b : BlockName) → pages b.nsid b.lba ≡ None → AreOwners pages owners → AreOwners (with_page pages b None) owners
claimed-none pages owners b none h = owners-beyond pages owners b None (λ q x at e. cc) (λ q x at. none-some (pages b.nsid b.lba) q none) h

past-none : (owners : List Owner) (page q : ℕ) (x : Owner) → length owners ≤ page → slice_get owners q ≡ Some x → Some page ≢ Some q
past-none owners page q x past at e = let same : page ≡ q = cc in let low = slice_get_within owners q x at in absurd (omega (arith, same, low, past))

pub claimed-past : (pages : Pages) (owners : List Owner) (b : BlockName) (page : ℕ) → length owners ≤ page → pages b.nsid b.lba ≡ None → AreOwners pages owners → AreOwners (with_page pages b (Some page)) owners
claimed-past pages owners b page past none h =
    owners-beyond pages owners b (Some page) (λ q x at. past-none owners page q x past at) (λ q x at. none-some (pages b.nsid b.lba) q none) h

pub released-past : (pages : Pages) (owners : List Owner) (b : BlockName) (page : ℕ) → length owners ≤ page → pages b.nsid b.lba ≡ Some page → AreOwners pages owners → AreOwners (with_page pages b None) owners
released-past pages owners b page past was h =
    owners-beyond pages owners b None (λ q x at e. cc) (λ q x at e. past-none owners page q x past at (sym was ∙ e)) h

-- the same pages, said another way
pub owners-as : (pages after : Pages) (owners : List Owner) → ((nsid lba : ℕ) → after nsid lba ≡ pages nsid lba) → AreOwners pages owners → AreOwners after owners
owners-as pages after owners same h = let e : pages ≡ after = (λ d nsid lba. sym (same nsid lba) d) in subst (λ (p : Pages). AreOwners p owners) e h

-- ---- a table of free pages

pub record AreFree (owners : List Owner) : Type 0 where
  pub each : (page : ℕ) (x : Owner) → slice_get owners page ≡ Some x → x ≡ owned.Free

pub free-none : (owners : List Owner) → owners ≡ [] → AreFree owners
free-none owners e = record { each = λ page x at. let none : None ≡ Some x = sym (ap (λ (xs : List Owner). slice_get xs page) e) ∙ at in absurd cc }

free-push : (owners : List Owner) → ((page : ℕ) (x : Owner) → slice_get owners page ≡ Some x → x ≡ owned.Free) → (page : ℕ) (x : Owner) → slice_get (owners ++ owned.Free ∷ []) page ≡ Some x → x ≡ owned.Free
free-push [] h zero x at = let same : owned.Free ≡ x = cc in sym same
free-push [] h (suc page) x at = cc
free-push (y ∷ ys) h zero x at = h 0 x at
free-push (y ∷ ys) h (suc page) x at = free-push ys (λ q z is. h (suc q) z is) page x at

pub free-more : (owners new : List Owner) → new ≡ owners ++ owned.Free ∷ [] → AreFree owners → AreFree new
free-more owners new e h = record { each = λ page x at. free-push owners h.each page x (sym (ap (λ (xs : List Owner). slice_get xs page) e) ∙ at) }

pub free-owners : (owners : List Owner) → AreFree owners → AreOwners (λ nsid lba. None) owners
free-owners owners h = record { each = λ page x at. subst (IsOwner (λ nsid lba. None) page) (sym (h.each page x at)) (λ nsid lba e. cc) }

-- ---- the blocks of a namespace, one after another

abbrev pub block : ℕ → ℕ → BlockName
block nsid lba = record { nsid = nsid; lba = lba }

before-itself : (nsid lba : ℕ) → is_before nsid lba nsid lba ≡ false
before-itself nsid lba = grind (arith, nat_tests)

before-next : (n l nsid lba : ℕ) → (IsBlock (block nsid lba) n l → ⊥) → is_before n l nsid (lba + 1) ≡ is_before n l nsid lba
before-next n l nsid lba other = grind (arith, nat_tests, other)

before-this : (nsid lba : ℕ) → is_before nsid lba nsid (lba + 1) ≡ true
before-this nsid lba = grind (arith, nat_tests)

-- a block more
before-more : (pages : Pages) (nsid lba : ℕ) (page : Option ℕ) (n l : ℕ) → page ≡ pages nsid lba → pages_before pages nsid (lba + 1) n l ≡ with_page (pages_before pages nsid lba) (block nsid lba) page n l
before-more pages nsid lba page n l is =
    with-page (pages_before pages nsid lba) (block nsid lba) page n l (λ (o : Option ℕ). pages_before pages nsid (lba + 1) n l ≡ o)
    (λ (e : IsBlock (block nsid lba) n l).
    ap (λ (k : ℕ). pages_before pages nsid (lba + 1) k l) e.0
    ∙ ap (pages_before pages nsid (lba + 1) nsid) e.1
    ∙ ap (λ (t : Bool). if t then pages nsid lba else None) (before-this nsid lba)
    ∙ sym is)
    (λ no. ap (λ (t : Bool). if t then pages n l else None) (before-next n l nsid lba no))

pub before-claimed : (pages : Pages) (owners : List Owner) (nsid lba : ℕ) (page : Option ℕ) → page ≡ pages nsid lba → AreOwners (with_page (pages_before pages nsid lba) (block nsid lba) page) owners
    → AreOwners (pages_before pages nsid (lba + 1)) owners
before-claimed pages owners nsid lba page is h = owners-as _ (pages_before pages nsid (lba + 1)) owners (λ n l. before-more pages nsid lba page n l is) h

pub none-before-itself : (pages : Pages) (nsid lba : ℕ) → pages_before pages nsid lba nsid lba ≡ None
none-before-itself pages nsid lba = ap (λ (t : Bool). if t then pages nsid lba else None) (before-itself nsid lba)

-- all blocks of a namespace
pub before-all : (pages : Pages) (owners : List Owner) (nsid size : ℕ) → ((l : ℕ) → size ≤ l → pages nsid l ≡ None) → AreOwners (pages_before pages nsid size) owners → AreOwners (pages_before pages (nsid + 1) 0) owners
before-all pages owners nsid size none h =
    owners-as _ (pages_before pages (nsid + 1) 0) owners
    (λ n l.
    ⊎_elim
    (λ (e : (n == nsid ≡ true) × (n ≡ nsid)). here n l e.1)
    (λ (e : (n == nsid ≡ false) × (n ≢ nsid)).
    let same : is_before n l (nsid + 1) 0 ≡ is_before n l nsid size = grind (arith, nat_tests) in
    ap (λ (t : Bool). if t then pages n l else None) same)
    (eqb_tells n nsid))
    h
  where
    here : (n l : ℕ) → n ≡ nsid → pages_before pages (nsid + 1) 0 n l ≡ pages_before pages nsid size n l
    here n l e =
        let lower : is_before n l (nsid + 1) 0 ≡ true = grind (arith, nat_tests) in
        ap (λ (t : Bool). if t then pages n l else None) lower
        ∙ ⊎_elim
        (λ (low : l < size).
        let before : is_before n l nsid size ≡ true = grind (arith, nat_tests) in
        sym (ap (λ (t : Bool). if t then pages n l else None) before))
        (λ (high : size ≤ l).
        let past : is_before n l nsid size ≡ false = grind (arith, nat_tests) in
        ap (λ (k : ℕ). pages k l) e ∙ none l high ∙ sym (ap (λ (t : Bool). if t then pages n l else None) past))
        (cases_lt l size)

-- no block is before the first namespace, and all are before the seventeenth
pub before-first : (pages : Pages) (owners : List Owner) → ((l : ℕ) → pages 0 l ≡ None) → AreOwners (λ nsid lba. None) owners → AreOwners (pages_before pages 1 0) owners
before-first pages owners none h = owners-as _ (pages_before pages 1 0) owners (λ n l. of_test n l (is_before n l 1 0) refl) h where
  of_test : (n l : ℕ) (t : Bool) → is_before n l 1 0 ≡ t → (if t then pages n l else None) ≡ None
  of_test n l false is = refl
  of_test n l true is = let low : n ≡ 0 = grind (arith, nat_tests) in ap (λ (k : ℕ). pages k l) low ∙ none l

pub before-last : (pages : Pages) (owners : List Owner) (nsid : ℕ) → ((n l : ℕ) → nsid ≤ n → pages n l ≡ None) → AreOwners (pages_before pages nsid 0) owners → AreOwners pages owners
before-last pages owners nsid none h = owners-as _ pages owners (λ n l. of_test n l (is_before n l nsid 0) refl) h where
  of_test : (n l : ℕ) (t : Bool) → is_before n l nsid 0 ≡ t → pages n l ≡ (if t then pages n l else None)
  of_test n l true is = refl
  of_test n l false is = let high : nsid ≤ n = grind (arith, nat_tests) in none n l high
