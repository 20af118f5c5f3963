-- Rows of pages that are listed under the units where their pages stand: those alone are looked at where pages lose or change their sites.
use Rattle.std.proofs.Common.{◌≡◌, ◌≢◌, ◌⊎◌, inl, inr, ⊎_elim, ℕ, zero, suc, ◌+◌, ◌<◌, ◌≤◌, Bool, true, false, List, [], ◌∷◌, ◌++◌, length, set, get_or, slice_get, Option, None, Some, refl, ap, sym, ◌∙◌, arith, cond, subst, map, eq-eqb, ne_eqb}
use Rattle.std.specs.Prelude.{◌==◌, ◌&&◌, ◌||◌, not, IsTrue, is_some, nat_lt, option_and_then, option_map, replicate, unwrap_or}
use Rattle.std.specs.List.{list_all}
use Rattle.std.specs.Option.{option_flatten}
use Rattle.std.proofs.lemmas.Bool.{and_parts, cases_eq, eqb-true, false≢true}
use Rattle.std.proofs.lemmas.List.{ext_get_or, get_or-set_other, get_or-set_same, length-map}
use Rattle.fdp_base.specs.declared.entry.Spot.{Spot}
use Rattle.fdp_rules.specs.Sites.{is_spot, moved_by, outside}
use Rattle.fdp_tables.specs.Copies.{copy_of}
use Rattle.fdp_tables.specs.declared.site_change.SiteChange.TheVariants as changes
use Rattle.fdp_tables.specs.Index.{Lists, is_listed}
use Rattle.fdp_tables.specs.PageSites.{AreListed, changed_by, changed_in, leaves, site_in}
use Rattle.fdp_tables.proofs.Walks.{site-changed}

abbrev pub Row : Type 0
Row = List (Option Spot)

abbrev pub Lists' : Type 0
Lists' = Option (List (List ℕ))

same-spot : (a b : Spot) → Some a ≡ Some b → a ≡ b
same-spot a b e = ap (λ o. unwrap_or o a) e

none-some : (a : Spot) → None ≡ Some a → ⊥
none-some a e = false≢true (ap is_some e)

-- ---- rows that are changed

zero-suc : (n : ℕ) → (zero == suc n) ≡ false
zero-suc n = grind arith

suc-zero : (n : ℕ) → (suc n == zero) ≡ false
suc-zero n = grind arith

suc-suc : (m n : ℕ) → (suc m == suc n) ≡ (m == n)
suc-suc m n = grind arith

-- the row of a ticket after it was changed
read-changed : (f : Row → Row) → f [] ≡ [] → (at : ℕ) (rows : List Row) (ticket : ℕ) → get_or (changed_in f at rows) ticket [] ≡ cond (at == ticket) (f (get_or rows ticket [])) (get_or rows ticket [])
read-changed f none at [] zero = elim (at == zero) as (λ b. [] ≡ cond b (f []) []) [ true ↦ sym none | false ↦ refl ]
read-changed f none at [] (suc ticket) = elim (at == suc ticket) as (λ b. [] ≡ cond b (f []) []) [ true ↦ sym none | false ↦ refl ]
read-changed f none zero (row ∷ rows) zero = refl
read-changed f none zero (row ∷ rows) (suc ticket) = sym (ap (λ b. cond b (f (get_or rows ticket [])) (get_or rows ticket [])) (zero-suc ticket))
read-changed f none (suc at) (row ∷ rows) zero = sym (ap (λ b. cond b (f row) row) (suc-zero at))
read-changed f none (suc at) (row ∷ rows) (suc ticket) = read-changed f none at rows ticket ∙ sym (ap (λ b. cond b (f (get_or rows ticket [])) (get_or rows ticket [])) (suc-suc at ticket))

length-changed : (f : Row → Row) (at : ℕ) (rows : List Row) → length (changed_in f at rows) ≡ length rows
length-changed f at [] = refl
length-changed f zero (row ∷ rows) = refl
length-changed f (suc at) (row ∷ rows) = ap suc (length-changed f at rows)

-- no row is changed where there is none
pub past_changed : (f : Row → Row) (at : ℕ) (rows : List Row) → length rows ≤ at → changed_in f at rows ≡ rows
past_changed f at [] past = refl
past_changed f zero (row ∷ rows) past = absurd (omega (arith, past))
past_changed f (suc at) (row ∷ rows) past = ap (λ (xs : List Row). row ∷ xs) (past_changed f at rows (omega (arith, past)))

-- the same of rows that are read by a word
pub set_changed : {V : Type 0} (read : V → Row) (f : Row → Row) (vs : List V) (at : ℕ) (v w : V) → at < length vs → v ≡ get_or vs at v → read w ≡ f (read v) → map read (set vs at w) ≡ changed_in f at (map read vs)
set_changed read f [] at v w below is e = absurd (omega (arith, below))
set_changed read f (x ∷ vs) zero v w below is e = ap (λ (row : Row). row ∷ map read vs) (e ∙ ap (λ y. f (read y)) is)
set_changed read f (x ∷ vs) (suc at) v w below is e = ap (λ (rows : List Row). read x ∷ rows) (set_changed read f vs at v w (omega (arith, below)) is e)

-- the rows of those tickets are changed that pass, and no others
pub record IsChanging (f : Row → Row) (done : ℕ → Bool) (old new : List Row) : Type 0 where
  pub count : length new ≡ length old
  pub rows : (ticket : ℕ) → get_or new ticket [] ≡ cond (done ticket) (f (get_or old ticket [])) (get_or old ticket [])

module _ (f : Row → Row) (none : f [] ≡ []) where
  pub changing_start : (done : ℕ → Bool) (old : List Row) → ((ticket : ℕ) → done ticket ≡ false) → IsChanging f done old old
  changing_start done old never = record { count = refl; rows = λ ticket. sym (ap (λ b. cond b (f (get_or old ticket [])) (get_or old ticket [])) (never ticket)) }

  one-row : (o : Row) (a b : Bool) → (a ≡ true → b ≡ true → f (f o) ≡ f o) → cond a (f (cond b (f o) o)) (cond b (f o) o) ≡ cond (b || a) (f o) o
  one-row o true true twice = twice refl refl
  one-row o true false twice = refl
  one-row o false true twice = refl
  one-row o false false twice = refl

  -- one row more is changed
  pub changing_next : (done next : ℕ → Bool) (at : ℕ) (old new : List Row) → ((ticket : ℕ) → next ticket ≡ (done ticket || (at == ticket))) → (done at ≡ true → (row : Row) → f (f row) ≡ f row)
      → IsChanging f done old new → IsChanging f next old (changed_in f at new)
  changing_next done next at old new more twice h = record {
    count = length-changed f at new ∙ h.count;
    rows = λ ticket.
        let o : Row = get_or old ticket [] in
        read-changed f none at new ticket
        ∙ ap (λ (row : Row). cond (at == ticket) (f row) row) (h.rows ticket)
        ∙ one-row o (at == ticket) (done ticket) (λ same before. twice (ap done (eqb-true at ticket same) ∙ before) o)
        ∙ sym (ap (λ b. cond b (f o) o) (more ticket));
  }

  row-mapped : (rows : List Row) (ticket : ℕ) → get_or (map f rows) ticket [] ≡ f (get_or rows ticket [])
  row-mapped [] zero = sym none
  row-mapped [] (suc ticket) = sym none
  row-mapped (row ∷ rows) zero = refl
  row-mapped (row ∷ rows) (suc ticket) = row-mapped rows ticket

  rest-row : (o : Row) (b : Bool) → (b ≡ false → f o ≡ o) → cond b (f o) o ≡ f o
  rest-row o true still = refl
  rest-row o false still = sym (still refl)

  -- all are changed, where a change leaves the others as they are
  pub changing_end : (done : ℕ → Bool) (old new : List Row) → ((ticket : ℕ) → ticket < length old → done ticket ≡ false → f (get_or old ticket []) ≡ get_or old ticket []) → IsChanging f done old new → new ≡ map f old
  changing_end done old new still h =
      ext_get_or [] new (map f old) (h.count ∙ sym (length-map old f)) (λ ticket below.
      h.rows ticket ∙ rest-row (get_or old ticket []) (done ticket) (still ticket (omega (arith, below, h.count))) ∙ sym (row-mapped old ticket))

pub lower_or_here : (ticket i : ℕ) → nat_lt ticket (i + 1) ≡ (nat_lt ticket i || (i == ticket))
lower_or_here ticket i = grind arith

pub not_below_itself : (i : ℕ) → nat_lt i i ≡ false
not_below_itself i = grind arith

-- a row is changed twice as once, where each of its pages is
pub twice_mapped : (g : Option Spot → Option Spot) → ((page : Option Spot) → g (g page) ≡ g page) → (row : Row) → map g (map g row) ≡ map g row
twice_mapped g once [] = refl
twice_mapped g once (page ∷ row) = ap (λ (p : Option Spot). p ∷ map g (map g row)) (once page) ∙ ap (λ (ps : Row). g page ∷ ps) (twice_mapped g once row)

-- ---- where pages stand

site_of_row : (rows : List Row) (ticket i : ℕ) → site_in rows ticket i ≡ option_flatten (slice_get (get_or rows ticket []) i)
site_of_row [] zero i = refl
site_of_row [] (suc ticket) i = refl
site_of_row (row ∷ rows) zero i = refl
site_of_row (row ∷ rows) (suc ticket) i = site_of_row rows ticket i

-- a row stays that has no page that is changed
still-row : (g : Option Spot → Option Spot) → g None ≡ None → (row : Row) → ((i : ℕ) (spot : Spot) → option_flatten (slice_get row i) ≡ Some spot → g (Some spot) ≡ Some spot) → map g row ≡ row
still-row g none [] still = refl
still-row g none (None ∷ row) still = ap (λ (p : Option Spot). p ∷ map g row) none ∙ ap (λ (ps : Row). None ∷ ps) (still-row g none row (λ i. still (suc i)))
still-row g none (Some spot ∷ row) still = ap (λ (p : Option Spot). p ∷ map g row) (still 0 spot refl) ∙ ap (λ (ps : Row). Some spot ∷ ps) (still-row g none row (λ i. still (suc i)))

-- a change of the pages of one unit: once changed they stay, and all others stay
pub record ChangesIn (g : Option Spot → Option Spot) (unit : ℕ) : Type 0 where
  pub none : g None ≡ None
  pub once : (page : Option Spot) → g (g page) ≡ g page
  pub others : (spot : Spot) → spot.unit ≢ unit → g (Some spot) ≡ Some spot

-- the rows of tickets that are not listed under the unit stay
pub others_still : (g : Option Spot → Option Spot) (unit : ℕ) (rows : List Row) (old : Lists') (list : List ℕ) → ChangesIn g unit → AreListed rows old → ((value : ℕ) → Lists old unit value → IsTrue (is_listed value list))
    → (ticket : ℕ) → is_listed ticket list ≡ false → map g (get_or rows ticket []) ≡ get_or rows ticket []
others_still g unit rows old list h listed all ticket absent =
    still-row g h.none (get_or rows ticket []) (λ i spot e.
    h.others spot (λ same. absurd (false≢true (sym absent ∙ all ticket (subst (λ u. Lists old u ticket) same (listed.under ticket i spot (site_of_row rows ticket i ∙ e)))))))

-- ---- an erase

outside-kept : (unit : ℕ) (spot : Spot) → spot.unit ≢ unit → outside unit spot ≡ Some spot
outside-kept unit spot ne = ap (λ b. cond b None (Some spot)) (ne_eqb spot.unit unit ne)

outside-once : (unit : ℕ) (page : Option Spot) → option_and_then (outside unit) (option_and_then (outside unit) page) ≡ option_and_then (outside unit) page
outside-once unit None = refl
outside-once unit (Some spot) =
    let P : Bool → Type 0 = λ b. (spot.unit == unit) ≡ b → option_and_then (outside unit) (outside unit spot) ≡ outside unit spot in
    (elim (spot.unit == unit) as P [ true ↦ λ e. rw e refl | false ↦ λ e. rw (e, e) refl ]) refl

pub erase_changes : (unit : ℕ) → ChangesIn (changed_by (changes.Erased unit)) unit
erase_changes unit = record { none = refl; once = outside-once unit; others = outside-kept unit }

-- what stands somewhere after an erase stood there before, in another unit
outside-is : (unit : ℕ) (page : Option Spot) (spot : Spot) → option_and_then (outside unit) page ≡ Some spot → (page ≡ Some spot) × (spot.unit ≢ unit)
outside-is unit None spot e = absurd (none-some spot e)
outside-is unit (Some at) spot e =
    let P : Bool → Type 0 = λ b. (at.unit == unit) ≡ b → cond b None (Some at) ≡ Some spot → (Some at ≡ Some spot) × (spot.unit ≢ unit) in
    (elim (at.unit == unit) as P [
      | true ↦ λ t none. absurd (none-some spot none)
      | false ↦ λ f same. (same, λ is. absurd (false≢true (sym f ∙ eq-eqb at.unit unit (ap (λ (s : Spot). s.unit) (same-spot at spot same) ∙ is))))
    ]) refl e

pub erased_listed : (unit : ℕ) (rows : List Row) (old new : Lists') → AreListed rows old → ((k value : ℕ) → k ≢ unit → Lists old k value → Lists new k value) → AreListed (map (map (changed_by (changes.Erased unit))) rows) new
erased_listed unit rows old new listed others = record {
  under = λ ticket i spot e.
      let was : (site_in rows ticket i ≡ Some spot) × (spot.unit ≢ unit) = outside-is unit (site_in rows ticket i) spot (sym (site-changed (option_and_then (outside unit)) rows ticket i refl) ∙ e) in
      others spot.unit ticket was.1 (listed.under ticket i spot was.0);
}

-- ---- a move

-- what stands in no unit that the copies leave stays
moved-still : (unit : ℕ) (pass : List (Spot × Spot)) (spot : Spot) → list_all (leaves unit) pass ≡ true → spot.unit ≢ unit → moved_by (map copy_of pass) spot ≡ spot
moved-still unit [] spot all ne = refl
moved-still unit (x ∷ pass) spot all ne =
    let parts = and_parts (leaves unit x) (list_all (leaves unit) pass) all in
    let from : x.0.unit ≡ unit = eqb-true x.0.unit unit (and_parts (x.0.unit == unit) (not (x.1.unit == unit)) parts.0).0 in
    let other : is_spot x.0 spot ≡ false = ap (λ b. b && (x.0.page == spot.page)) (ne_eqb x.0.unit spot.unit (λ same. ne (sym same ∙ from))) in
    rw other (moved-still unit pass spot parts.1 ne)

-- what is moved leaves the unit
moved-away : (unit : ℕ) (pass : List (Spot × Spot)) (spot : Spot) → list_all (leaves unit) pass ≡ true → (moved_by (map copy_of pass) spot ≡ spot) ⊎ ((moved_by (map copy_of pass) spot).unit ≢ unit)
moved-away unit [] spot all = inl refl
moved-away unit (x ∷ pass) spot all =
    let parts = and_parts (leaves unit x) (list_all (leaves unit) pass) all in
    let to : not (x.1.unit == unit) ≡ true = (and_parts (x.0.unit == unit) (not (x.1.unit == unit)) parts.0).1 in
    let P : Bool → Type 0 = λ b. is_spot x.0 spot ≡ b → (moved_by (map copy_of (x ∷ pass)) spot ≡ spot) ⊎ ((moved_by (map copy_of (x ∷ pass)) spot).unit ≢ unit) in
    (elim (is_spot x.0 spot) as P [
      | true ↦ λ e. rw e (inr (λ same. absurd (false≢true (ap not (sym (eq-eqb x.1.unit unit same)) ∙ to))))
      | false ↦ λ e. rw e (moved-away unit pass spot parts.1)
    ]) refl

pub move_changes : (unit : ℕ) (pass : List (Spot × Spot)) → list_all (leaves unit) pass ≡ true → ChangesIn (option_map (moved_by (map copy_of pass))) unit
move_changes unit pass all = record {
  none = refl;
  once = λ page. once page;
  others = λ spot ne. ap Some (moved-still unit pass spot all ne);
} where
  once : (page : Option Spot) → option_map (moved_by (map copy_of pass)) (option_map (moved_by (map copy_of pass)) page) ≡ option_map (moved_by (map copy_of pass)) page
  once None = refl
  once (Some spot) = ap Some (⊎_elim (λ same. ap (moved_by (map copy_of pass)) same) (λ ne. moved-still unit pass (moved_by (map copy_of pass) spot) all ne) (moved-away unit pass spot all))

-- where something stands that was moved
moved-from : (f : Spot → Spot) (page : Option Spot) (spot : Spot) → option_map f page ≡ Some spot → (at : Spot) × (page ≡ Some at) × (f at ≡ spot)
moved-from f None spot e = absurd (none-some spot e)
moved-from f (Some at) spot e = (at, refl, same-spot (f at) spot e)

pub moved_listed : (unit : ℕ) (pass : List (Spot × Spot)) (rows : List Row) (old taken new : Lists') (list : List ℕ) → list_all (leaves unit) pass ≡ true → AreListed rows old → ((value : ℕ) → Lists old unit value → IsTrue (is_listed value list))
    → ((k value : ℕ) → k ≢ unit → Lists old k value → Lists taken k value) → ((k value : ℕ) → Lists taken k value → Lists new k value)
    → ((ticket i : ℕ) (spot : Spot) → IsTrue (is_listed ticket list) → site_in rows ticket i ≡ Some spot → spot.unit ≡ unit → Lists new (moved_by (map copy_of pass) spot).unit ticket)
    → AreListed (map (map (option_map (moved_by (map copy_of pass)))) rows) new
moved_listed unit pass rows old taken new list leave listed all others kept moved = record {
  under = λ ticket i spot e.
      let f : Spot → Spot = moved_by (map copy_of pass) in
      let was : (at : Spot) × (site_in rows ticket i ≡ Some at) × (f at ≡ spot) = moved-from f (site_in rows ticket i) spot (sym (site-changed (option_map f) rows ticket i refl) ∙ e) in
      let at : Spot = was.0 in
      let before : Lists old at.unit ticket = listed.under ticket i at was.1 in
      let there : at.unit ≡ unit → Lists new (f at).unit ticket = λ same. moved ticket i at (all ticket (subst (λ u. Lists old u ticket) same before)) was.1 same in
      let elsewhere : at.unit ≢ unit → Lists new (f at).unit ticket = λ ne. subst (λ (s : Spot). Lists new s.unit ticket) (sym (moved-still unit pass at leave ne)) (kept at.unit ticket (others at.unit ticket ne before)) in
      subst (λ (s : Spot). Lists new s.unit ticket) was.2 (⊎_elim there elsewhere (cases_eq at.unit unit));
}

-- ---- rows and pages more

blank-site : (n i : ℕ) → option_flatten {T = Spot} (slice_get (replicate n None) i) ≡ None
blank-site zero i = refl
blank-site (suc n) zero = refl
blank-site (suc n) (suc i) = blank-site n i

site-pushed : (rows : List Row) (n ticket i : ℕ) → site_in (rows ++ replicate n None ∷ []) ticket i ≡ site_in rows ticket i
site-pushed [] n zero i = blank-site n i
site-pushed [] n (suc zero) i = refl
site-pushed [] n (suc (suc ticket)) i = refl
site-pushed (row ∷ rows) n zero i = refl
site-pushed (row ∷ rows) n (suc ticket) i = site-pushed rows n ticket i

-- a row more whose pages stand nowhere
pub pushed_listed : (rows : List Row) (tickets : Lists') (pages : Row) → AreListed rows tickets → pages ≡ replicate (length pages) None → AreListed (rows ++ pages ∷ []) tickets
pushed_listed rows tickets pages listed blank = record {
  under = λ ticket i spot e. listed.under ticket i spot (sym (ap (λ (row : Row). site_in (rows ++ row ∷ []) ticket i) blank ∙ site-pushed rows (length pages) ticket i) ∙ e);
}

placed-page : (row : Row) (index i : ℕ) (spot at : Spot) → option_flatten (slice_get (set row index (Some spot)) i) ≡ Some at → (at ≡ spot) ⊎ (option_flatten (slice_get row i) ≡ Some at)
placed-page [] index i spot at e = inr e
placed-page (page ∷ row) zero zero spot at e = inl (sym (same-spot spot at e))
placed-page (page ∷ row) zero (suc i) spot at e = inr e
placed-page (page ∷ row) (suc index) zero spot at e = inr e
placed-page (page ∷ row) (suc index) (suc i) spot at e = placed-page row index i spot at e

-- a page that gets a site, under whose unit its ticket is listed
pub placed_listed : (rows : List Row) (old new : Lists') (ticket index : ℕ) (spot : Spot) → AreListed rows old → ticket < length rows → ((k value : ℕ) → Lists old k value → Lists new k value) → Lists new spot.unit ticket
    → AreListed (set rows ticket (set (get_or rows ticket []) index (Some spot))) new
placed_listed rows old new ticket index spot listed there kept added =
    let row : Row = set (get_or rows ticket []) index (Some spot) in
    record {
      under = λ t i at e.
          let before : option_flatten (slice_get (get_or rows t []) i) ≡ Some at → Lists new at.unit t = λ was. kept at.unit t (listed.under t i at (site_of_row rows t i ∙ was)) in
          let now : option_flatten (slice_get (get_or (set rows ticket row) t []) i) ≡ Some at = sym (site_of_row (set rows ticket row) t i) ∙ e in
          let here : t ≡ ticket → Lists new at.unit t = λ same.
          let placed : (at ≡ spot) ⊎ (option_flatten (slice_get (get_or rows t []) i) ≡ Some at) =
          subst (λ n. (at ≡ spot) ⊎ (option_flatten (slice_get (get_or rows n []) i) ≡ Some at)) (sym same)
          (placed-page (get_or rows ticket []) index i spot at (sym (ap (λ (r : Row). option_flatten (slice_get r i)) (ap (λ n. get_or (set rows ticket row) n []) same ∙ get_or-set_same rows ticket row [] there)) ∙ now)) in
          ⊎_elim (λ is. subst (λ (s : Spot). Lists new s.unit t) (sym is) (subst (Lists new spot.unit) (sym same) added)) before placed in
          let other : t ≢ ticket → Lists new at.unit t = λ ne. before (sym (ap (λ (r : Row). option_flatten (slice_get r i)) (get_or-set_other rows ticket t row [] ne)) ∙ now) in
          ⊎_elim here other (cases_eq t ticket);
    }
