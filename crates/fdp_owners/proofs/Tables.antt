-- One page of the table gets another owner, or none.
use Rattle.std.proofs.Common.{◌≡◌, ◌≢◌, ℕ, ◌+◌, ◌/◌, ◌%◌, ◌-◌, ◌<◌, ◌≤◌, Bool, true, false, Option, Some, None, refl, ap, sym, ◌∙◌, arith, cond, set, length, get_or, ⊎_elim, eq-eqb, ne_eqb, get_or-set_other, get_or-set_same}
use Rattle.std.specs.Prelude.{is_some, if◌then◌else◌, nat_lt, option_map}
use Rattle.std.proofs.lemmas.Bool.{cases_eq, cases_lt, lt-ltb, ltb-true}
use Rattle.std.proofs.lemmas.List.{length-set}
use Rattle.std.proofs.lemmas.Nat.{div-mul-add, mod-mul-add}
use Rattle.fdp_base.specs.declared.entry.Spot.{Spot}
use Rattle.fdp_base.specs.Numbers.{with_at}
use Rattle.fdp_rules.specs.Sites.{is_spot}
use Rattle.fdp_pointers.proofs.Copies.{same-spot}
use Rattle.fdp_owners.specs.declared.owner.Holder.{Holder}
use Rattle.fdp_owners.specs.declared.owner.Owner.{Owner}
use Rattle.fdp_owners.specs.OwnerTable.{IsPlace, OwnerTable, held_by, live_in, one_less, one_more, owner_at, page_number, with_owner}
use Rattle.fdp_base.proofs.Sums.{count_from-one, count_from-same}
use Rattle.fdp_owners.proofs.Rows.{as_number, count-fewer, count-most, count-some}

pub is_spot-same : (spot : Spot) → is_spot spot spot ≡ true
is_spot-same spot = rw (eq-eqb spot.unit spot.unit refl, eq-eqb spot.page spot.page refl) refl

pub is_spot-other : (a b : Spot) → a ≢ b → is_spot a b ≡ false
is_spot-other a b ne = cases (is_spot a b) refl where
  cases : (t : Bool) → is_spot a b ≡ t → is_spot a b ≡ false
  cases true e = absurd (ne (same-spot a b e))
  cases false e = e

-- two pages of one number are one
pub same-number : (pages : ℕ) (a b : Spot) → a.page < pages → b.page < pages → page_number pages a ≡ page_number pages b → a ≡ b
same-number pages a b low high e =
    let unit : a.unit ≡ b.unit = sym (div-mul-add a.unit pages a.page low) ∙ ap (λ (n : ℕ). n / pages) e ∙ div-mul-add b.unit pages b.page high in
    let page : a.page ≡ b.page = sym (mod-mul-add a.unit pages a.page low) ∙ ap (λ (n : ℕ). n % pages) e ∙ mod-mul-add b.unit pages b.page high in
    λ k. record { unit = unit k; page = page k }

-- a table with another owner, or none, at a page
abbrev pub with_page : OwnerTable → Spot → Option Owner → OwnerTable
with_page t spot value = record t { pages = set t.pages (page_number t.unit_pages spot) value }

-- where a page lies in its unit, the owner of it
here-is : (t : OwnerTable) (spot : Spot) (low : Bool) → nat_lt spot.page t.unit_pages ≡ low → owner_at t spot ≡ (if low then get_or t.pages (page_number t.unit_pages spot) None else None)
here-is t spot low e = ap (λ (b : Bool). if b then get_or t.pages (page_number t.unit_pages spot) None else None) e

pub owner-set : (t : OwnerTable) (spot : Spot) (value : Option Owner) → IsPlace t spot → (s : Spot) → owner_at (with_page t spot value) s ≡ with_owner (owner_at t) spot value s
owner-set t spot value place s =
    ⊎_elim
    (λ (low : s.page < t.unit_pages).
    let there : nat_lt s.page t.unit_pages ≡ true = lt-ltb s.page t.unit_pages low in
    ⊎_elim
    (λ (e : page_number t.unit_pages s ≡ page_number t.unit_pages spot).
    let same : s ≡ spot = same-number t.unit_pages s spot low place.page e in
    let now : with_owner (owner_at t) spot value s ≡ value = ap (λ (b : Bool). if b then value else owner_at t s) (ap (λ (x : Spot). is_spot x spot) same ∙ is_spot-same spot) in
    here-is (with_page t spot value) s true there
    ∙ ap (λ (n : ℕ). get_or (set t.pages (page_number t.unit_pages spot) value) n None) e
    ∙ get_or-set_same t.pages (page_number t.unit_pages spot) value None place.number
    ∙ sym now)
    (λ (ne : page_number t.unit_pages s ≢ page_number t.unit_pages spot).
    let apart : is_spot s spot ≡ false = is_spot-other s spot (λ e. ne (ap (page_number t.unit_pages) e)) in
    let now : with_owner (owner_at t) spot value s ≡ owner_at t s = ap (λ (b : Bool). if b then value else owner_at t s) apart in
    here-is (with_page t spot value) s true there
    ∙ get_or-set_other t.pages (page_number t.unit_pages spot) (page_number t.unit_pages s) value None ne
    ∙ sym (here-is t s true there) ∙ sym now)
    (cases_eq (page_number t.unit_pages s) (page_number t.unit_pages spot)))
    (λ (past : t.unit_pages ≤ s.page).
    let out : nat_lt s.page t.unit_pages ≡ false = not-below s.page t.unit_pages past in
    let apart : is_spot s spot ≡ false = is_spot-other s spot (λ e. let page : s.page ≡ spot.page = ap (λ (x : Spot). x.page) e in omega (arith, page, past, place.page)) in
    here-is (with_page t spot value) s false out
    ∙ sym (here-is t s false out)
    ∙ sym (ap (λ (b : Bool). if b then value else owner_at t s) apart))
    (cases_lt s.page t.unit_pages) where
      not-below : (a b : ℕ) → b ≤ a → nat_lt a b ≡ false
      not-below a b more = cases (nat_lt a b) refl where
        cases : (t : Bool) → nat_lt a b ≡ t → nat_lt a b ≡ false
        cases true e = let low : a < b = ltb-true a b e in absurd (omega (arith, low, more))
        cases false e = e

pub place-kept : (t : OwnerTable) (spot : Spot) (value : Option Owner) (s : Spot) → IsPlace t s → IsPlace (with_page t spot value) s
place-kept t spot value s place = record {
  page = place.page;
  number = let size : length (set t.pages (page_number t.unit_pages spot) value) ≡ length t.pages = length-set t.pages (page_number t.unit_pages spot) value in omega (arith, size, place.number);
}

-- ---- live pages

-- a page of a unit is owned
abbrev owned : (Spot → Option Owner) → ℕ → ℕ → Bool
owned owners unit page = is_some (owners (record { unit = unit; page = page }))

-- the live pages of a unit after one page of it changed
pub live-set : (t : OwnerTable) (spot : Spot) (value : Option Owner) (now : ℕ) → IsPlace t spot → now + as_number (is_some (owner_at t spot)) ≡ live_in t spot.unit + as_number (is_some value) → live_in (with_page t spot value) ≡ with_at (live_in t) spot.unit now
live-set t spot value now place counts = λ d unit. at unit d where
  changed : (s : Spot) → owner_at (with_page t spot value) s ≡ with_owner (owner_at t) spot value s
  changed = owner-set t spot value place

  at : (unit : ℕ) → live_in (with_page t spot value) unit ≡ with_at (live_in t) spot.unit now unit
  at unit =
      ⊎_elim
      (λ (e : unit ≡ spot.unit).
      let then_is : with_at (live_in t) spot.unit now unit ≡ now = ap (λ (b : Bool). cond b now (live_in t unit)) (eq-eqb unit spot.unit e) in
      let one = count_from-one (owned (owner_at (with_page t spot value)) spot.unit) (owned (owner_at t) spot.unit) 0 t.unit_pages spot.page (omega arith) (omega (arith, place.page))
      (λ page ne. ap is_some (changed (record { unit = spot.unit; page = page }) ∙ ap (λ (b : Bool). if b then value else owner_at t (record { unit = spot.unit; page = page })) (is_spot-other (record { unit = spot.unit; page = page }) spot (λ same. ne (ap (λ (x : Spot). x.page) same))))) in
      let own : as_number (is_some (owner_at (with_page t spot value) spot)) ≡ as_number (is_some value) = ap (λ (o : Option Owner). as_number (is_some o)) (changed spot ∙ ap (λ (b : Bool). if b then value else owner_at t spot) (is_spot-same spot)) in
      let here : live_in (with_page t spot value) spot.unit ≡ now = omega (arith, one, own, counts) in
      ap (live_in (with_page t spot value)) e ∙ here ∙ sym then_is)
      (λ (ne : unit ≢ spot.unit).
      let then_is : with_at (live_in t) spot.unit now unit ≡ live_in t unit = ap (λ (b : Bool). cond b now (live_in t unit)) (ne_eqb unit spot.unit ne) in
      count_from-same (owned (owner_at (with_page t spot value)) unit) (owned (owner_at t) unit) 0 t.unit_pages
      (λ page low high. ap is_some (changed (record { unit = unit; page = page }) ∙ ap (λ (b : Bool). if b then value else owner_at t (record { unit = unit; page = page })) (is_spot-other (record { unit = unit; page = page }) spot (λ same. ne (ap (λ (x : Spot). x.unit) same)))))
      ∙ sym then_is)
      (cases_eq unit spot.unit)

-- ---- the changes of a page

owned-counts : (o : Option Owner) → is_some o ≡ true → as_number (is_some o) ≡ 1
owned-counts o e = ap as_number e

free-counts : (o : Option Owner) → o ≡ None → as_number (is_some o) ≡ 0
free-counts o e = ap (λ (x : Option Owner). as_number (is_some x)) e

-- a page with an owner is one of the live pages of its unit
pub one-live : (t : OwnerTable) (spot : Spot) → spot.page < t.unit_pages → is_some (owner_at t spot) ≡ true → 1 ≤ live_in t spot.unit
one-live t spot low is = count-some (owned (owner_at t) spot.unit) 0 t.unit_pages spot.page (omega arith) (omega (arith, low)) is

pub live-put : (t : OwnerTable) (spot : Spot) (x : Owner) → IsPlace t spot → owner_at t spot ≡ None → live_in (with_page t spot (Some x)) ≡ one_more (live_in t) spot.unit
live-put t spot x place free = live-set t spot (Some x) (live_in t spot.unit + 1) place (omega (arith, free-counts (owner_at t spot) free))

pub live-cleared : (t : OwnerTable) (spot : Spot) → IsPlace t spot → is_some (owner_at t spot) ≡ true → live_in (with_page t spot None) ≡ one_less (live_in t) spot.unit
live-cleared t spot place is = live-set t spot None (live_in t spot.unit - 1) place (omega (arith, owned-counts (owner_at t spot) is, one-live t spot place.page is))

same-held : (holder : Holder) (o : Option Owner) → is_some (option_map (held_by holder) o) ≡ is_some o
same-held holder None = refl
same-held holder (Some x) = refl

pub live-handed : (t : OwnerTable) (spot : Spot) (holder : Holder) → IsPlace t spot → live_in (with_page t spot (option_map (held_by holder) (owner_at t spot))) ≡ live_in t
live-handed t spot holder place =
    live-set t spot (option_map (held_by holder) (owner_at t spot)) (live_in t spot.unit) place (ap (λ (b : Bool). live_in t spot.unit + as_number b) (sym (same-held holder (owner_at t spot))))
    ∙ (λ d unit. as-before unit d) where
      as-before : (unit : ℕ) → with_at (live_in t) spot.unit (live_in t spot.unit) unit ≡ live_in t unit
      as-before unit =
          ⊎_elim
          (λ (e : unit ≡ spot.unit). ap (λ (b : Bool). cond b (live_in t spot.unit) (live_in t unit)) (eq-eqb unit spot.unit e) ∙ ap (live_in t) (sym e))
          (λ (ne : unit ≢ spot.unit). ap (λ (b : Bool). cond b (live_in t spot.unit) (live_in t unit)) (ne_eqb unit spot.unit ne))
          (cases_eq unit spot.unit)

module _ (t : OwnerTable) (from to : Spot) (here : IsPlace t from) (there : IsPlace t to) where
  abbrev left : OwnerTable
  left = with_page t from None

  left-owners : owner_at left ≡ with_owner (owner_at t) from None
  left-owners = λ d s. owner-set t from None here s d

  pub owners-moved : (o : Option Owner) → owner_at (with_page left to o) ≡ with_owner (with_owner (owner_at t) from None) to o
  owners-moved o = (λ d s. owner-set left to o (place-kept t from None to there) s d) ∙ ap (λ (owners : Spot → Option Owner). with_owner owners to o) left-owners

  still-free : owner_at t to ≡ None → owner_at left to ≡ None
  still-free free = owner-set t from None here to ∙ gone (is_spot to from) where
    gone : (b : Bool) → (if b then None else owner_at t to) ≡ None
    gone true = refl
    gone false = free

  pub live-moved : (o : Option Owner) → is_some (owner_at t from) ≡ true → is_some o ≡ true → owner_at t to ≡ None → live_in (with_page left to o) ≡ one_more (one_less (live_in t) from.unit) to.unit
  live-moved o is moves free =
      live-set left to o (live_in left to.unit + 1) (place-kept t from None to there) (omega (arith, free-counts (owner_at left to) (still-free free), owned-counts o moves))
      ∙ ap (λ (live : ℕ → ℕ). one_more live to.unit) (live-cleared t from here is)

-- ---- live pages and used ones

pub live-most : (t : OwnerTable) (unit next : ℕ) → next ≤ t.unit_pages → ((page : ℕ) → next ≤ page → owner_at t (record { unit = unit; page = page }) ≡ None) → live_in t unit ≤ next
live-most t unit next low none = let most : live_in t unit ≤ next - 0 = count-most (owned (owner_at t) unit) 0 t.unit_pages next (λ page past. ap is_some (none page past)) in omega (arith, most)

pub live-fewer : (t : OwnerTable) (unit next page : ℕ) → next ≤ t.unit_pages → ((later : ℕ) → next ≤ later → owner_at t (record { unit = unit; page = later }) ≡ None) → page < next → owner_at t (record { unit = unit; page = page }) ≡ None → live_in t unit < next
live-fewer t unit next page low none below not = count-fewer (owned (owner_at t) unit) t.unit_pages next page low (λ later past. ap is_some (none later past)) below (ap is_some not)

-- a page that has an owner lies in its unit
pub owned-within : (t : OwnerTable) (spot : Spot) (x : Owner) → owner_at t spot ≡ Some x → spot.page < t.unit_pages
owned-within t spot x e = within (nat_lt spot.page t.unit_pages) refl e where
  within : (b : Bool) → nat_lt spot.page t.unit_pages ≡ b → (if b then get_or t.pages (page_number t.unit_pages spot) None else None) ≡ Some x → spot.page < t.unit_pages
  within true is e = ltb-true spot.page t.unit_pages is
  within false is e = absurd (never e) where
    never : None ≡ Some x → ⊥
    never e = cc

-- a unit without a live page has no page with an owner
pub unowned-unit : (t : OwnerTable) (unit : ℕ) → live_in t unit ≡ 0 → (spot : Spot) (x : Owner) → owner_at t spot ≡ Some x → spot.unit ≢ unit
unowned-unit t unit none spot x e same =
    let live : 1 ≤ live_in t spot.unit = one-live t spot (owned-within t spot x e) (ap is_some e) in
    let here : live_in t spot.unit ≡ 0 = ap (live_in t) same ∙ none in
    omega (arith, live, here)
