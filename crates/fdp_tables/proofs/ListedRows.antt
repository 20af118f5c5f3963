-- Tickets that are listed under the units where their pages are moved, row by row and page by page.
use Rattle.std.proofs.Common.{◌≡◌, ℕ, ◌+◌, ◌<◌, ◌≤◌, Bool, true, false, List, length, get_or, slice_get, take, Option, Some, refl, ap, sym, ◌∙◌, arith, subst, ⊎_elim, below_more}
use Rattle.std.specs.Prelude.{◌==◌, ◌||◌, IsTrue, is_some}
use Rattle.std.specs.Option.{option_flatten}
use Rattle.std.proofs.lemmas.Bool.{cases_lt, eqb-true, false≢true}
use Rattle.std.proofs.lemmas.List.{take_all}
use Rattle.std.proofs.lemmas.List.Folds.{list_any_more}
use Rattle.std.proofs.lemmas.Option.{slice_get_past, slice_get_read}
use Rattle.fdp_base.specs.declared.entry.Spot.{Spot}
use Rattle.fdp_tables.specs.Index.{Lists, is_listed}

abbrev pub Tickets : Type 0
Tickets = Option (List (List ℕ))

-- of a page that stands in the unit, the ticket is listed where it is moved
abbrev pub MovesTo : (Spot → Spot) → ℕ → Tickets → ℕ → Option Spot → Type 0
MovesTo f unit tickets ticket page = (spot : Spot) → page ≡ Some spot → spot.unit ≡ unit → Lists tickets (f spot).unit ticket

abbrev pub Keeps : Tickets → Tickets → Type 0
Keeps old new = (k v : ℕ) → Lists old k v → Lists new k v

kept-moves : (f : Spot → Spot) (unit : ℕ) (old new : Tickets) (ticket : ℕ) (page : Option Spot) → Keeps old new → MovesTo f unit old ticket page → MovesTo f unit new ticket page
kept-moves f unit old new ticket page keeps h spot e is = keeps (f spot).unit ticket (h spot e is)

-- of the pages of a row before a place
pub record IsListingPages (f : Spot → Spot) (unit ticket : ℕ) (pages : List (Option Spot)) (count : ℕ) (old new : Tickets) : Type 0 where
  pub kept : Keeps old new
  pub listed : (i : ℕ) → i < count → MovesTo f unit new ticket (option_flatten (slice_get pages i))

module _ (f : Spot → Spot) (unit ticket : ℕ) (pages : List (Option Spot)) where
  pub pages_start : (tickets : Tickets) → IsListingPages f unit ticket pages 0 tickets tickets
  pages_start tickets = record { kept = λ k v h. h; listed = λ i below. absurd (omega (arith, below)) }

  pub pages_next : (count : ℕ) (page : Option Spot) (old now new : Tickets) → count < length pages → page ≡ get_or pages count page → Keeps now new → MovesTo f unit new ticket page
      → IsListingPages f unit ticket pages count old now → IsListingPages f unit ticket pages (count + 1) old new
  pages_next count page old now new below at keeps here h = record {
    kept = λ k v was. keeps k v (h.kept k v was);
    listed =
        below_more (λ i. MovesTo f unit new ticket (option_flatten (slice_get pages i))) count
        (λ i low. kept-moves f unit now new ticket (option_flatten (slice_get pages i)) keeps (h.listed i low))
        (subst (MovesTo f unit new ticket) (sym (ap option_flatten (slice_get_read pages (length pages) count page refl below at))) here);
  }

  pub pages_end : (count : ℕ) (old new : Tickets) → length pages ≤ count → IsListingPages f unit ticket pages count old new → (i : ℕ) → MovesTo f unit new ticket (option_flatten (slice_get pages i))
  pages_end count old new past h i = ⊎_elim (h.listed i) (λ high spot e is. absurd (false≢true (ap is_some (sym (ap option_flatten (slice_get_past pages i (omega (arith, past, high)))) ∙ e)))) (cases_lt i count)

-- of the rows of some tickets
pub record IsListingRows (f : Spot → Spot) (unit : ℕ) (site : ℕ → ℕ → Option Spot) (list : List ℕ) (old new : Tickets) : Type 0 where
  pub kept : Keeps old new
  pub listed : (ticket i : ℕ) → IsTrue (is_listed ticket list) → MovesTo f unit new ticket (site ticket i)

module _ (f : Spot → Spot) (unit : ℕ) (site : ℕ → ℕ → Option Spot) (list : List ℕ) where
  pub rows_start : (tickets : Tickets) → IsListingRows f unit site (take 0 list) tickets tickets
  rows_start tickets = record { kept = λ k v h. h; listed = λ ticket i no. absurd (false≢true no) }

  pub rows_next : (count : ℕ) (old now new : Tickets) → count < length list → Keeps now new → ((i : ℕ) → MovesTo f unit new (get_or list count 0) (site (get_or list count 0) i))
      → IsListingRows f unit site (take count list) old now → IsListingRows f unit site (take (count + 1) list) old new
  rows_next count old now new below keeps here h = record {
    kept = λ k v was. keeps k v (h.kept k v was);
    listed = λ ticket i there.
        let P : Bool → Type 0 = λ b. is_listed ticket (take count list) ≡ b → MovesTo f unit new ticket (site ticket i) in
        let one : (is_listed ticket (take count list) || (get_or list count 0 == ticket)) ≡ true = sym (list_any_more (λ x. x == ticket) list count 0 below) ∙ there in
        (elim (is_listed ticket (take count list)) as P [
          | true ↦ λ before. kept-moves f unit now new ticket (site ticket i) keeps (h.listed ticket i before)
          | false ↦ λ not.
              let same : get_or list count 0 ≡ ticket = eqb-true (get_or list count 0) ticket (sym (ap (λ b. b || (get_or list count 0 == ticket)) not) ∙ one) in
              subst (λ t. MovesTo f unit new t (site t i)) same (here i)
        ]) refl;
  }

  pub rows_end : (count : ℕ) (old new : Tickets) → length list ≤ count → IsListingRows f unit site (take count list) old new → IsListingRows f unit site list old new
  rows_end count old new past h = subst (λ xs. IsListingRows f unit site xs old new) (take_all count list past) h
