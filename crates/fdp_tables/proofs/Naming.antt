-- Places that are listed under the pages at which their blocks may be.
use Rattle.std.proofs.Common.{◌≡◌, ◌≢◌, ℕ, zero, suc, ◌<◌, Bool, true, false, List, [], ◌∷◌, arith, length, set, Option, None, Some, refl, ap, sym, ◌∙◌, cond, subst, eq-eqb, ne_eqb, ⊎_elim}
use Rattle.std.specs.Prelude.{IfOk, IfSome, IsTrue, is_some, option_map, replicate}
use Rattle.std.specs.declared.result.Result.{Result}
use Rattle.std.specs.declared.result.Result.TheVariants as results
use Rattle.std.specs.Option.{IsSomeAnd, option_flatten}
use Rattle.std.proofs.lemmas.Bool.{cases_eq, false≢true}
use Rattle.fdp_base.specs.declared.entry.Spot.{Spot}
use Rattle.fdp_base.specs.Numbers.{with_at}
use Rattle.fdp_tables.specs.Blocks.{AreNamed, ListsPlaces, Names, index_of, on_page, row_of}
use Rattle.fdp_tables.specs.declared.blocks.PageRow.{PageRow}
use Rattle.fdp_tables.specs.declared.state.KeptBlock.{KeptBlock}
use Rattle.fdp_tables.specs.declared.state.KeptPage.{KeptPage}
use Rattle.fdp_tables.specs.declared.state.KeptPage.TheVariants as pages
use Rattle.fdp_tables.specs.Index.{Lists, is_listed}
use Rattle.fdp_tables.specs.declared.state.Kept.{Kept}
use Rattle.fdp_tables.specs.PageSites.{site_in}
use Rattle.fdp_tables.specs.State.{page_of, row, table_site}
use Rattle.fdp_tables.proofs.Tables.{read-set}

abbrev pub Lists' : Type 0
Lists' = Option (List (List ℕ))

abbrev pub Keeps : Lists' → Lists' → Type 0
Keeps old new = (k v : ℕ) → Lists old k v → Lists new k v

pub names_kept : (written found written' found' : Lists') → Keeps written written' → Keeps found found' → (page : KeptPage) (place : ℕ) → Names written found page place → Names written' found' page place
names_kept written found written' found' w f (pages.Written ticket index) place h = w ticket place h
names_kept written found written' found' w f (pages.Found spot) place h = f spot.unit place h

-- what is put in a place is listed
named_here : (written found : Lists') (place : ℕ) (block : Option KeptBlock) (b : KeptBlock) → IfSome block (λ x. Names written found x.page place) → block ≡ Some b → Names written found b.page place
named_here written found place block b h e = subst (λ o. IfSome o (λ (x : KeptBlock). Names written found x.page place)) e h

pub put_named : (written found written' found' : Lists') (places : List (Option KeptBlock)) (at : ℕ) (block : Option KeptBlock) → at < length places → AreNamed written found places → Keeps written written' → Keeps found found'
    → IfSome block (λ x. Names written' found' x.page at) → AreNamed written' found' (set places at block)
put_named written found written' found' places at block there named w f here = record {
  each = λ place b e.
      let now : with_at (row places) at block place ≡ Some b = sym (read-set option_flatten places at block there place) ∙ e in
      let same : place ≡ at → Names written' found' b.page place = λ is.
      subst (Names written' found' b.page) (sym is) (named_here written' found' at block b here (sym (ap (λ t. cond t block (row places place)) (eq-eqb place at is)) ∙ now)) in
      let other : place ≢ at → Names written' found' b.page place = λ ne.
      names_kept written found written' found' w f b.page place (named.each place b (sym (ap (λ t. cond t block (row places place)) (ne_eqb place at ne)) ∙ now)) in
      ⊎_elim same other (cases_eq place at);
}

-- a block with another page
pub paged : (written found : Lists') (place : ℕ) (page : KeptPage) (block : Option KeptBlock) → Names written found page place → IfSome (option_map (on_page page) block) (λ x. Names written found x.page place)
paged written found place page None h = tt
paged written found place page (Some b) h = h

-- those at some pages are listed there
pub at_row : (written found : Lists') (places : List (Option KeptBlock)) (at : PageRow) (list : Lists') (is : Bool) → at.is_found ≡ is → list ≡ cond is found written → AreNamed written found places → (place : ℕ) (b : KeptBlock) → row places place ≡ Some b → row_of b.page ≡ at → Lists list at.number place
at_row written found places at list is e l named place b there same =
    subst (λ (x : Lists'). Lists x at.number place) (sym (l ∙ ap (λ t. cond t found written) (sym e)))
    (subst (λ (r : PageRow). Lists (cond r.is_found found written) r.number place) same (named.each place b there))

pub if_some : {X : Type 0} (P Q : X → Type 0) (o : Option X) → ((x : X) → P x → Q x) → IfSome o P → IfSome o Q
if_some P Q None h p = tt
if_some P Q (Some x) h p = h x p

-- nothing is listed where no block is
pub absent_named : (written found : Lists') (places : List (Option KeptBlock)) (size : ℕ) → places ≡ replicate size None → AreNamed written found places
absent_named written found places size e = record { each = λ place b there. absurd (false≢true (ap is_some (sym (none-there size place) ∙ ap (λ xs. row xs place) (sym e) ∙ there))) } where
  none-there : (size place : ℕ) → row {X = KeptBlock} (replicate size None) place ≡ None
  none-there zero place = refl
  none-there (suc size) zero = refl
  none-there (suc size) (suc place) = none-there size place

-- what was listed before is listed, and the places of blocks at certain pages
pub record IsPushing (places : List (Option KeptBlock)) (P : KeptPage → Type 0) (old new : List ℕ) : Type 0 where
  pub kept : (v : ℕ) → IsTrue (is_listed v old) → IsTrue (is_listed v new)
  pub listed : ListsPlaces places P new

-- of the pages of writes and of those that were found
pub both_kinds : (k : Kept) (P : Spot → Type 0) (places : List (Option KeptBlock)) (list : List ℕ) → ListsPlaces places (λ page. ((row_of page).is_found ≡ false) × IsSomeAnd (site_in k.sites.rows (row_of page).number (index_of page)) P) list
    → ListsPlaces places (λ page. ((row_of page).is_found ≡ true) × IsSomeAnd (site_in k.found.rows (row_of page).number (index_of page)) P) list → ListsPlaces places (λ page. IsSomeAnd (table_site k (page_of page)) P) list
both_kinds k P places list written found = λ place b there stands. of_page b.page place (written place b there) (found place b there) stands where
  of_page : (page : KeptPage) (place : ℕ) → (((row_of page).is_found ≡ false) × IsSomeAnd (site_in k.sites.rows (row_of page).number (index_of page)) P → IsTrue (is_listed place list))
      → (((row_of page).is_found ≡ true) × IsSomeAnd (site_in k.found.rows (row_of page).number (index_of page)) P → IsTrue (is_listed place list)) → IsSomeAnd (table_site k (page_of page)) P → IsTrue (is_listed place list)
  of_page (pages.Written ticket index) place w f stands = w (refl, stands)
  of_page (pages.Found spot) place w f stands = f (refl, stands)

-- a block has a place among the others
pub row_within : {X : Type 0} (rows : List (Option X)) (place : ℕ) (x : X) → row rows place ≡ Some x → place < length rows
row_within [] place x e = absurd (false≢true (ap is_some e))
row_within (o ∷ rows) zero x e = omega arith
row_within (o ∷ rows) (suc place) x e = let rest : place < length rows = row_within rows place x e in omega (arith, rest)

pub if_ok : {X E : Type 0} (P Q : X → Type 0) (r : Result X E) → ((x : X) → P x → Q x) → IfOk r P → IfOk r Q
if_ok P Q (results.Ok x) h p = h x p
if_ok P Q (results.Err e) h p = tt
