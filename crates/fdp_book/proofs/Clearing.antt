-- Blocks that are taken away, one after another.
use Rattle.std.proofs.Common.{◌≡◌, ◌≢◌, ◌⊎◌, ⊎_elim, inl, inr, ℕ, ◌+◌, Bool, true, false, ◌||◌, List, [], ◌∷◌, ◌++◌, Option, Some, None, refl, sym, ◌∙◌, ap, subst, arith, cond, eq-eqb, ne_eqb}
use Rattle.std.specs.Prelude.{◌==◌, ◌&&◌, IfSome, IsSome, if◌then◌else◌, is_some, not, option_and_then, option_map}
use Rattle.std.specs.List.{list_any}
use Rattle.std.proofs.lemmas.Bool.{and_parts, and_right, cases_eq, eqb-true}
use Rattle.std.proofs.lemmas.Bool.Decides.{nat_tests}
use Rattle.std.proofs.lemmas.Grind.{common_steps}
use Rattle.fdp_base.specs.declared.command.Range.{Range}
use Rattle.fdp_base.specs.declared.entry.Spot.{Spot}
use Rattle.fdp_base.specs.Numbers.{is_among}
use Rattle.fdp_book.specs.Clearing.{AreMapped, Clears, HasPointers, without_mapped}
use Rattle.fdp_book.specs.Commanded.{LetsGo}
use Rattle.fdp_book.specs.Taking.{cleared_of}
use Rattle.fdp_book.proofs.Committing.PutPages.{changes-joined, changes-self}
use Rattle.fdp_map.specs.declared.mapped.Mapped.{Mapped}
use Rattle.fdp_map.specs.MapTable.{MapTable, mapped_at, size_in, with_mapped}
use Rattle.fdp_owners.specs.declared.owner.Owner.{Owner}
use Rattle.fdp_owners.specs.Owned.{AreOwners, with_pointer}
use Rattle.fdp_owners.specs.OwnerTable.{owner_at, pointer_of, with_owner}
use Rattle.fdp_owners.proofs.Owned.{owners-cleared}
use Rattle.fdp_readings.specs.fdp_pages.Joined.{AreJoined}
use Rattle.fdp_readings.specs.fdp_pages.PageTables.{PageTables}
use Rattle.fdp_readings.specs.fdp_pages.Steps.{ChangesOwners}
use Rattle.fdp_pointers.specs.Facts.{Page}
use Rattle.fdp_pointers.specs.Pointers.{Behind, Pointer, Pointer.of_block, Pointer.of_flight, is_outside, only, renamed}
use Rattle.fdp_rules.specs.Effect.{is_in_ranges}
use Rattle.fdp_rules.specs.Sites.{is_spot}

-- ---- pages that are let go

pub lets-none : (t : PageTables) → AreJoined t → LetsGo t t
lets-none t joined = record { changes = changes-self t joined; only = λ spot. inl refl }

pub lets-on : (a b d : PageTables) → LetsGo a b → LetsGo b d → LetsGo a d
lets-on a b d one two = record {
  changes = changes-joined a b d one.changes two.changes;
  only = λ spot. ⊎_elim (λ same. ⊎_elim (λ before. inl (same ∙ before)) (λ none. inr (same ∙ none)) (one.only spot)) (λ none. inr none) (two.only spot);
}

-- ---- tests of addresses

or-last : (b : Bool) → (b || true) ≡ true
or-last true = refl
or-last false = refl

or-none : (b : Bool) → (b || false) ≡ b
or-none true = refl
or-none false = refl

-- no address, and one more
among-none : (slba lba : ℕ) → is_among slba 0 lba ≡ false
among-none slba lba = grind (arith, common_steps, nat_tests)

among-more : (slba count lba : ℕ) → (is_among slba count lba || (lba == slba + count)) ≡ is_among slba (count + 1) lba
among-more slba count lba = grind (arith, common_steps, nat_tests)

any-more : (test : Range → Bool) (xs : List Range) (x : Range) → (list_any test xs || test x) ≡ list_any test (xs ++ x ∷ [])
any-more test [] x = sym (or-none (test x))
any-more test (y ∷ ys) x = or-joined (test y) (list_any test ys) (test x) ∙ ap (λ (b : Bool). test y || b) (any-more test ys x)
  where
    or-joined : (a b d : Bool) → ((a || b) || d) ≡ (a || (b || d))
    or-joined true b d = refl
    or-joined false b d = refl

-- ---- blocks of one test, and then of another

both-out : {X : Type 0} (one two : Bool) (x : Option X) → (if two then None else if one then None else x) ≡ (if one || two then None else x)
both-out true true x = refl
both-out true false x = refl
both-out false true x = refl
both-out false false x = refl

and-or : (a b d : Bool) → ((a && b) || (a && d)) ≡ (a && (b || d))
and-or true b d = refl
and-or false b d = refl

mapped-on : (table : ℕ → ℕ → Option Mapped) (nsid : ℕ) (f g : ℕ → Bool) (n lba : ℕ) → without_mapped (without_mapped table nsid f) nsid g n lba ≡ without_mapped table nsid (λ l. f l || g l) n lba
mapped-on table nsid f g n lba = both-out (n == nsid && f lba) (n == nsid && g lba) (table n lba) ∙ ap (λ (b : Bool). if b then None else table n lba) (and-or (n == nsid) (f lba) (g lba))

pub only-out : (b : Bool) (p : Pointer) (at : Behind Page) → option_and_then at (if not b then Some p else None) ≡ (if b then None else at p)
only-out true p at = refl
only-out false p at = refl

outside-on : (nsid : ℕ) (f g : ℕ → Bool) (at : Behind Page) (p : Pointer) → renamed (only (is_outside nsid g)) (renamed (only (is_outside nsid f)) at) p ≡ renamed (only (is_outside nsid (λ l. f l || g l))) at p
outside-on nsid f g at (of_block n l) =
    only-out (n == nsid && g l) (of_block n l) (renamed (only (is_outside nsid f)) at)
    ∙ ap (λ (o : Option Page). if n == nsid && g l then None else o) (only-out (n == nsid && f l) (of_block n l) at)
    ∙ both-out (n == nsid && f l) (n == nsid && g l) (at (of_block n l))
    ∙ ap (λ (b : Bool). if b then None else at (of_block n l)) (and-or (n == nsid) (f l) (g l))
    ∙ sym (only-out (n == nsid && (f l || g l)) (of_block n l) at)
outside-on nsid f g at (of_flight q i) = refl

-- the pointers lead where the map says still
pub mapped-still : (nsid : ℕ) (test : ℕ → Bool) (map new : MapTable) (t now : PageTables) (at : Behind Page) → Clears nsid test map new t now → AreMapped at map t → AreMapped (renamed (only (is_outside nsid test)) at) new now
mapped-still nsid test map new t now at h are = record {
  owned = h.owners at are;
  mapped = λ n l.
      ap (option_map (λ (y : Page). y.spot)) (only-out (n == nsid && test l) (of_block n l) at)
      ∙ chosen (n == nsid && test l) n l
      ∙ sym (ap (λ (table : ℕ → ℕ → Option Mapped). option_map (λ (m : Mapped). m.spot) (table n l)) h.blocks);
}
  where
    chosen : (b : Bool) (n l : ℕ) → option_map (λ (y : Page). y.spot) (if b then None else at (of_block n l)) ≡ option_map (λ (m : Mapped). m.spot) (if b then None else mapped_at map n l)
    chosen true n l = refl
    chosen false n l = are.mapped n l

pub pointers-still : (nsid : ℕ) (test : ℕ → Bool) (map new : MapTable) (t now : PageTables) → Clears nsid test map new t now → HasPointers map t → HasPointers new now
pointers-still nsid test map new t now h has = record { at = renamed (only (is_outside nsid test)) has.at; are = mapped-still nsid test map new t now has.at h has.are }

pub clears-on : (nsid : ℕ) (f g : ℕ → Bool) (a b d : MapTable) (t u v : PageTables) → Clears nsid f a b t u → Clears nsid g b d u v → Clears nsid (λ l. f l || g l) a d t v
clears-on nsid f g a b d t u v one two = record {
  blocks = two.blocks ∙ ap (λ (table : ℕ → ℕ → Option Mapped). without_mapped table nsid g) one.blocks ∙ (λ e n l. mapped-on (mapped_at a) nsid f g n l e);
  sizes = two.sizes ∙ one.sizes;
  geometry = two.geometry ∙ one.geometry;
  owners = λ at are.
      subst (λ (x : Behind Page). AreOwners (owner_at v.owners) x) (λ e p. outside-on nsid f g at p e)
      (two.owners (renamed (only (is_outside nsid f)) at) (mapped-still nsid f a b t u at one are));
  pages = lets-on t u v one.pages two.pages;
}

-- ---- no block

none-out : (nsid : ℕ) (at : Behind Page) (p : Pointer) → at p ≡ renamed (only (is_outside nsid (λ l. false))) at p
none-out nsid at (of_block n l) = sym (only-out (n == nsid && false) (of_block n l) at ∙ ap (λ (b : Bool). if b then None else at (of_block n l)) (and_right (n == nsid) false refl))
none-out nsid at (of_flight q i) = refl

none-mapped : (table : ℕ → ℕ → Option Mapped) (nsid n l : ℕ) → table n l ≡ without_mapped table nsid (λ x. false) n l
none-mapped table nsid n l = sym (ap (λ (b : Bool). if b then None else table n l) (and_right (n == nsid) false refl))

pub clears-none : (nsid : ℕ) (map : MapTable) (t : PageTables) → AreJoined t → Clears nsid (λ l. false) map map t t
clears-none nsid map t joined = record {
  blocks = λ e n l. none-mapped (mapped_at map) nsid n l e;
  sizes = refl;
  geometry = refl;
  owners = λ at are. subst (λ (x : Behind Page). AreOwners (owner_at t.owners) x) (λ e p. none-out nsid at p e) are.owned;
  pages = lets-none t joined;
}

-- tests that say the same
pub clears-alike : (nsid : ℕ) (f g : ℕ → Bool) (map new : MapTable) (t now : PageTables) → ((l : ℕ) → f l ≡ g l) → Clears nsid f map new t now → Clears nsid g map new t now
clears-alike nsid f g map new t now same h = subst (λ (test : ℕ → Bool). Clears nsid test map new t now) (λ e l. same l e) h

-- ---- one block

-- a page that was cleared has no owner any more, and each other one has its own
let-go : (owners : Spot → Option Owner) (o : Option Mapped) (spot : Spot) → (cleared_of owners o spot ≡ owners spot) ⊎ (cleared_of owners o spot ≡ None)
let-go owners None spot = inl refl
let-go owners (Some m) spot = either (is_spot spot m.spot)
  where
    either : (b : Bool) → ((if b then None else owners spot) ≡ owners spot) ⊎ ((if b then None else owners spot) ≡ None)
    either true = inr refl
    either false = inl refl

block-out : (nsid lba : ℕ) (at : Behind Page) (p : Pointer) → with_pointer at (of_block nsid lba) None p ≡ renamed (only (is_outside nsid (λ l. l == lba))) at p
block-out nsid lba at (of_block n l) = sym (only-out (n == nsid && l == lba) (of_block n l) at)
block-out nsid lba at (of_flight q i) = refl

-- where a block has no page, none is taken away
nothing-out : (nsid lba : ℕ) (at : Behind Page) → at (of_block nsid lba) ≡ None → (p : Pointer) → at p ≡ renamed (only (is_outside nsid (λ l. l == lba))) at p
nothing-out nsid lba at none (of_block n l) = sym (only-out (n == nsid && l == lba) (of_block n l) at ∙ by (n == nsid && l == lba) refl)
  where
    by : (b : Bool) → (n == nsid && l == lba) ≡ b → (if b then None else at (of_block n l)) ≡ at (of_block n l)
    by true is =
        let both = and_parts (n == nsid) (l == lba) is in
        sym (ap (λ (k : ℕ). at (of_block k l)) (eqb-true n nsid both.0) ∙ ap (λ (k : ℕ). at (of_block nsid k)) (eqb-true l lba both.1) ∙ none)
    by false is = refl
nothing-out nsid lba at none (of_flight q i) = refl

block-cleared : (nsid lba : ℕ) (owners : Spot → Option Owner) (at : Behind Page) (o : Option Page) (m : Option Mapped) → AreOwners owners at → at (of_block nsid lba) ≡ o → option_map (λ (y : Page). y.spot) o ≡ option_map (λ (x : Mapped). x.spot) m →
    AreOwners (cleared_of owners m) (renamed (only (is_outside nsid (λ l. l == lba))) at)
block-cleared nsid lba owners at None None h none e = subst (λ (x : Behind Page). AreOwners owners x) (λ d p. nothing-out nsid lba at none p d) h
block-cleared nsid lba owners at None (Some x) h none e = absurd cc
block-cleared nsid lba owners at (Some z) None h there e = absurd cc
block-cleared nsid lba owners at (Some z) (Some x) h there e =
    let same : z.spot ≡ x.spot = cc in
    let o = h.owned (of_block nsid lba) z there in
    let cleared : AreOwners (with_owner owners z.spot None) (with_pointer at (pointer_of o.owner) None) = owners-cleared owners at z.spot o.owner h o.is_owner in
    subst (λ (s : Spot). AreOwners (with_owner owners s None) (renamed (only (is_outside nsid (λ l. l == lba))) at)) same
    (subst (λ (x : Behind Page). AreOwners (with_owner owners z.spot None) x) (λ d p. block-out nsid lba at p d)
    (subst (λ (q : Pointer). AreOwners (with_owner owners z.spot None) (with_pointer at q None)) o.points cleared))

mapped-out : (table : ℕ → ℕ → Option Mapped) (nsid lba n l : ℕ) → with_mapped table nsid lba None n l ≡ without_mapped table nsid (λ x. x == lba) n l
mapped-out table nsid lba n l =
    ⊎_elim
    (λ (e : n ≡ nsid). rw (eq-eqb n nsid e) (ap (λ (k : ℕ). cond (l == lba) None (table k l)) (sym e)))
    (λ (ne : n ≢ nsid). rw (ne_eqb n nsid ne) refl)
    (cases_eq n nsid)

pub clears-one : (nsid lba : ℕ) (map new : MapTable) (t now : PageTables) → mapped_at new ≡ with_mapped (mapped_at map) nsid lba None → size_in new ≡ size_in map → new.geometry ≡ map.geometry →
    owner_at now.owners ≡ cleared_of (owner_at t.owners) (mapped_at map nsid lba) → ChangesOwners t now → Clears nsid (λ l. l == lba) map new t now
clears-one nsid lba map new t now blocks sizes geometry owners changes = record {
  blocks = blocks ∙ (λ e n l. mapped-out (mapped_at map) nsid lba n l e);
  sizes = sizes;
  geometry = geometry;
  owners = λ at are.
      subst (λ (o : Spot → Option Owner). AreOwners o (renamed (only (is_outside nsid (λ l. l == lba))) at)) (sym owners)
      (block-cleared nsid lba (owner_at t.owners) at (at (of_block nsid lba)) (mapped_at map nsid lba) are.owned refl (are.mapped nsid lba));
  pages = record { changes = changes; only = λ spot. subst (λ (o : Spot → Option Owner). (o spot ≡ owner_at t.owners spot) ⊎ (o spot ≡ None)) (sym owners) (let-go (owner_at t.owners) (mapped_at map nsid lba) spot) };
}

-- the page of a block has an owner
pub page-owned : (nsid lba : ℕ) (map : MapTable) (t : PageTables) → HasPointers map t → IfSome (mapped_at map nsid lba) (λ (m : Mapped). IsSome (owner_at t.owners m.spot))
page-owned nsid lba map t has = owned (has.at (of_block nsid lba)) (mapped_at map nsid lba) refl (has.are.mapped nsid lba)
  where
    owned : (o : Option Page) (m : Option Mapped) → has.at (of_block nsid lba) ≡ o → option_map (λ (y : Page). y.spot) o ≡ option_map (λ (x : Mapped). x.spot) m → IfSome m (λ (x : Mapped). IsSome (owner_at t.owners x.spot))
    owned o None there e = tt
    owned None (Some x) there e = absurd cc
    owned (Some z) (Some x) there e =
        let same : z.spot ≡ x.spot = cc in
        let own = has.are.owned.owned (of_block nsid lba) z there in
        subst (λ (s : Spot). IsSome (owner_at t.owners s)) same (ap (λ (y : Option Owner). is_some y) own.is_owner)

-- ---- so many from an address on, and those of ranges

pub clears-first : (nsid slba : ℕ) (map : MapTable) (t : PageTables) → AreJoined t → Clears nsid (is_among slba 0) map map t t
clears-first nsid slba map t joined = clears-alike nsid (λ l. false) (is_among slba 0) map map t t (λ l. sym (among-none slba l)) (clears-none nsid map t joined)

pub clears-next : (nsid slba index : ℕ) (a b d : MapTable) (t u v : PageTables) → Clears nsid (is_among slba index) a b t u → Clears nsid (λ l. l == slba + index) b d u v → Clears nsid (is_among slba (index + 1)) a d t v
clears-next nsid slba index a b d t u v one two =
    clears-alike nsid (λ l. is_among slba index l || (l == slba + index)) (is_among slba (index + 1)) a d t v (among-more slba index) (clears-on nsid (is_among slba index) (λ l. l == slba + index) a b d t u v one two)

pub clears-range : (nsid : ℕ) (ranges : List Range) (range : Range) (a b d : MapTable) (t u v : PageTables) → Clears nsid (is_in_ranges ranges) a b t u → Clears nsid (is_among range.slba range.length) b d u v → Clears nsid (is_in_ranges (ranges ++ range ∷ [])) a d t v
clears-range nsid ranges range a b d t u v one two =
    clears-alike nsid (λ l. is_in_ranges ranges l || is_among range.slba range.length l) (is_in_ranges (ranges ++ range ∷ [])) a d t v (λ l. any-more (λ (r : Range). is_among r.slba r.length l) ranges range) (clears-on nsid (is_in_ranges ranges) (is_among range.slba range.length) a b d t u v one two)
