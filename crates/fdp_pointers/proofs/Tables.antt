-- What each entry that may follow leaves of a table of where the pointers lead.
use Rattle.std.proofs.Common.{◌≡◌, ◌≢◌, ℕ, ◌≤◌, ◌<◌, Bool, true, false, List, [], ◌∷◌, ◌++◌, Option, Some, None, refl, sym, ◌∙◌, ap, subst, arith, ◌⊎◌, ⊎_elim, inl, inr, ne_eqb}
use Rattle.std.specs.Prelude.{All, IfSome, IsTrue, IsFalse, if◌then◌else◌, is_some, nat_lt, option_and_then, option_map}
use Rattle.std.proofs.lemmas.Bool.{and_parts, ltb-true}
use Rattle.fdp_base.specs.declared.config.DriveConfig.{DriveConfig}
use Rattle.fdp_base.specs.declared.entry.BlockName.{BlockName}
use Rattle.fdp_base.specs.declared.entry.Entry.{Entry}
use Rattle.fdp_base.specs.declared.entry.Entry.TheVariants as entries
use Rattle.fdp_base.specs.declared.entry.Spot.{Spot}
use Rattle.fdp_base.proofs.Entries.{by-entry}
use Rattle.fdp_rules.specs.Next.{next}
use Rattle.fdp_base.specs.Numbers.{with_at}
use Rattle.fdp_rules.specs.PlainState.{Block, Going, PageName, PageName.written, PlainState}
use Rattle.fdp_rules.specs.Point.{Copy, Point}
use Rattle.fdp_rules.specs.Sites.{group_of, is_there, moved_by, outside, pass_in, site_of, traced_by}
use Rattle.fdp_rules.specs.Step.{Follows, IsPlaced}
use Rattle.fdp_history.specs.Orderly.{IsOrderly, IsOrderlyCopy}
use Rattle.fdp_history.specs.OrderlyState.{IsOrderlyState}
use Rattle.fdp_history.specs.Standing.{IsStanding}
use Rattle.fdp_history.proofs.Tables.{with_at-each}
use Rattle.fdp_history.proofs.Trails.{all-last_run}
use Rattle.fdp_pointers.specs.Contents.{PageContent, content_at, content_of_block, leaves_pages, page_of_write, placed_page, renamed_by, tells_placed}
use Rattle.fdp_pointers.specs.Facts.{AreCopies, FollowsSites, IsFree, IsTableOf, Page, put_at, with_erased, with_next}
use Rattle.fdp_pointers.specs.Pointers.{Behind, IsInjective, Pointer, Pointer.of_block, Pointer.of_flight, moved, pointed, renamed}
use Rattle.fdp_pointers.proofs.Copies.{copies-apart, copies-copied, copies-erased, copies-none, copies-pointed, copies-raised, copies-renamed, moved-below, moved-injective, own-next, rises, still-below, unlike}
use Rattle.fdp_pointers.proofs.Names.{entry-injective}
use Rattle.fdp_pointers.proofs.Renaming.{apart-moved, apart-pointed, apart-renamed, below-moved, below-pointed, below-renamed, follows-moved, follows-pointed, follows-renamed}
use Rattle.fdp_pointers.proofs.Steps.{contents-placed, contents-renamed}

follows-as : (k new : Behind PageContent) (site : PageName → Option Spot) (at : Behind Page) → new ≡ k → FollowsSites k site at → FollowsSites new site at
follows-as k new site at e h = subst (λ (x : Behind PageContent). FollowsSites x site at) (sym e) h

-- ---- pointers are renamed, and no page is placed, copied, moved or erased

-- sites are those of before, and the copies of a group are those of before or forgotten
record IsStill (p q : Point) : Type 0 where
  sites : q.trail.site ≡ p.trail.site
  copies : (rg : ℕ) → (q.trail.copies rg ≡ p.trail.copies rg) ⊎ (q.trail.copies rg ≡ [])

table-still : (c : DriveConfig) (p q : Point) (r : Pointer → Option Pointer) (pages : ℕ → ℕ) (at : Behind Page) → content_at c q.state ≡ renamed r (content_at c p.state) → IsStill p q → IsInjective r → IsTableOf c p pages at → IsTableOf c q pages (renamed r at)
table-still c p q r pages at contents still injective h = record {
  follows = subst (λ (site : PageName → Option Spot). FollowsSites (content_at c q.state) site (renamed r at)) (sym still.sites)
      (follows-as (renamed r (content_at c p.state)) (content_at c q.state) p.trail.site (renamed r at) contents (follows-renamed r (content_at c p.state) p.trail.site at h.follows));
  apart = apart-renamed r at injective h.apart;
  below = below-renamed r pages at h.below;
  copies = λ rg.
      ⊎_elim
      (λ same. subst (AreCopies pages (renamed r at)) (sym same) (copies-renamed pages at r (p.trail.copies rg) (h.copies rg)))
      (λ none. subst (AreCopies pages (renamed r at)) (sym none) (copies-none pages (renamed r at)))
      (still.copies rg);
}

forgotten : (copies : ℕ → List Copy) (rg k : ℕ) → (with_at copies rg [] k ≡ copies k) ⊎ (with_at copies rg [] k ≡ [])
forgotten copies rg k = with_at-each copies rg [] (λ i xs. (xs ≡ copies i) ⊎ (xs ≡ [])) (inr refl) (λ i ne. inl refl) k

still : (c : DriveConfig) (p : Point) (e : Entry) → IsTrue (leaves_pages e) → IsStill p (next c p e)
unfolding next traced_by
still c p (entries.Host h) leaves = record { sites = refl; copies = λ rg. inl refl }
still c p (entries.Started s) leaves = record { sites = refl; copies = λ k. inl refl }
still c p (entries.Placed placed) leaves = absurd cc
still c p (entries.Copied copied) leaves = absurd cc
still c p (entries.Moved m) leaves = absurd cc
still c p (entries.Erased e) leaves = absurd cc
still c p (entries.Retired r) leaves = record { sites = refl; copies = forgotten p.trail.copies (group_of c r.unit) }
still c p (entries.Aside a) leaves = record { sites = refl; copies = forgotten p.trail.copies (group_of c a.unit) }
still c p (entries.Shut s) leaves = record { sites = refl; copies = λ k. inl refl }
still c p (entries.Worn w) leaves = record { sites = refl; copies = forgotten p.trail.copies w.rg }
still c p entries.Reopened leaves = record { sites = refl; copies = λ k. inl refl }

places-none : (e : Entry) → IsTrue (leaves_pages e) → IsFalse (tells_placed e)
places-none e leaves =
    let P : Entry → Type 0 = λ x. IsTrue (leaves_pages x) → IsFalse (tells_placed x) in
    by-entry P (λ h still. refl) (λ s still. refl) (λ p still. absurd cc) (λ x other still. ap is_some other.placed) e leaves

pub table-renamed : (told : Bool) (c : DriveConfig) (p : Point) (e : Entry) (pages : ℕ → ℕ) (at : Behind Page) → IsOrderlyState c p.state → Follows told c p e → IsTrue (leaves_pages e) → IsTableOf c p pages at → IsTableOf c (next c p e) pages (renamed (renamed_by p.state e) at)
table-renamed told c p e pages at orderly step leaves h =
    table-still c p (next c p e) (renamed_by p.state e) pages at (contents-renamed told c p e orderly step (places-none e leaves)) (still c p e leaves) (entry-injective p.state e) h

-- ---- a page is copied

pub table-copied : (told : Bool) (c : DriveConfig) (p : Point) (old new : Spot) (pages : ℕ → ℕ) (at : Behind Page) → IsOrderlyState c p.state → Follows told c p (entries.Copied (record { from = old; to = new })) → new.page ≡ pages new.unit → IsTableOf c p pages at → IsTableOf c (next c p (entries.Copied (record { from = old; to = new }))) (with_next pages new) at
unfolding next traced_by
table-copied told c p old new pages at orderly step fresh h = record {
  follows = follows-as (content_at c p.state) (content_at c (next c p (entries.Copied (record { from = old; to = new }))).state) p.trail.site at (contents-renamed told c p (entries.Copied (record { from = old; to = new })) orderly step refl) h.follows;
  apart = h.apart;
  below = λ q y e. let low : y.spot.page < pages y.spot.unit = h.below q y e in omega (arith, low, rises pages new fresh y.spot.unit);
  copies = with_at-each p.trail.copies (group_of c old.unit) (p.trail.copies (group_of c old.unit) ++ record { from = old; to = new } ∷ []) (λ k xs. AreCopies (with_next pages new) at xs)
      (copies-copied pages at (record { from = old; to = new }) (p.trail.copies (group_of c old.unit)) fresh h.below (h.copies (group_of c old.unit)))
      (λ k ne. copies-raised pages (with_next pages new) at (p.trail.copies k) (rises pages new fresh) (h.copies k));
}

-- ---- the pages of a pass are moved

pub table-moved : (told : Bool) (c : DriveConfig) (p : Point) (rg : ℕ) (blocks : List BlockName) (pages : ℕ → ℕ) (at : Behind Page) → IsOrderly c p → Follows told c p (entries.Moved (record { rg = rg; blocks = blocks })) → IsTableOf c p pages at
    → IsTableOf c (next c p (entries.Moved (record { rg = rg; blocks = blocks }))) pages (moved (put_at (moved_by (pass_in p.trail rg))) at)
unfolding next traced_by
table-moved told c p rg blocks pages at orderly step h =
    let pass : List Copy = pass_in p.trail rg in
    let part : (P : Copy → Type 0) → All P (p.trail.copies rg) → All P pass = λ P all. all-last_run P (p.trail.copies rg) all in
    record {
      follows = follows-as (content_at c p.state) (content_at c (next c p (entries.Moved (record { rg = rg; blocks = blocks }))).state) (λ name. option_map (moved_by pass) (p.trail.site name)) (moved (put_at (moved_by pass)) at)
          (contents-renamed told c p (entries.Moved (record { rg = rg; blocks = blocks })) orderly.state step refl)
          (follows-moved (moved_by pass) (content_at c p.state) p.trail.site at h.follows);
      apart = apart-moved (moved_by pass) at (moved-injective pages at (p.trail.copies rg) h.below (h.copies rg) pass part) h.apart;
      below = below-moved (moved_by pass) pages at (moved-below pages at (p.trail.copies rg) h.below (h.copies rg) pass part);
      copies = with_at-each p.trail.copies rg [] (λ k xs. AreCopies pages (moved (put_at (moved_by pass)) at) xs)
          (copies-none pages (moved (put_at (moved_by pass)) at))
          (λ k ne. copies-apart c pages at rg k pass (p.trail.copies k) (λ e. ne (sym e)) (part (IsOrderlyCopy c rg) (orderly.copies rg)) (orderly.copies k) (h.copies k));
    }

-- ---- a unit is erased

outside-at : (unit : ℕ) (site : PageName → Option Spot) (o : Option PageContent) (a : Option Page) → ((y : Page) → a ≡ Some y → y.spot.unit ≢ unit) → option_map (λ (x : PageContent). site x.name) o ≡ option_map (λ (y : Page). Some y.spot) a
    → option_map (λ (x : PageContent). option_and_then (outside unit) (site x.name)) o ≡ option_map (λ (y : Page). Some y.spot) a
outside-at unit site None None free e = refl
outside-at unit site None (Some y) free e = absurd cc
outside-at unit site (Some x) None free e = absurd cc
outside-at unit site (Some x) (Some y) free e = let is : site x.name ≡ Some y.spot = cc in rw (is, ne_eqb y.spot.unit unit (free y refl)) refl

pub table-erased : (told : Bool) (c : DriveConfig) (p : Point) (unit : ℕ) (pages : ℕ → ℕ) (at : Behind Page) → IsOrderly c p → Follows told c p (entries.Erased (record { unit = unit })) → IsFree unit at → IsTableOf c p pages at → IsTableOf c (next c p (entries.Erased (record { unit = unit }))) (with_erased pages unit) at
unfolding next traced_by
table-erased told c p unit pages at orderly step free h = record {
  follows = follows-as (content_at c p.state) (content_at c (next c p (entries.Erased (record { unit = unit }))).state) (λ name. option_and_then (outside unit) (p.trail.site name)) at
      (contents-renamed told c p (entries.Erased (record { unit = unit })) orderly.state step refl)
      (λ q. outside-at unit p.trail.site (content_at c p.state q) (at q) (free q) (h.follows q));
  apart = h.apart;
  below = λ q y e. still-below pages unit y.spot (free q y e) (h.below q y e);
  copies = with_at-each p.trail.copies (group_of c unit) [] (λ k xs. AreCopies (with_erased pages unit) at xs)
      (copies-none (with_erased pages unit) at)
      (λ k ne. copies-erased c pages at unit k (p.trail.copies k) (λ e. ne (sym e)) (orderly.copies k) (h.copies k));
}

-- ---- a page is placed

pub from-block : (o : Option Block) (x : PageContent) → option_map content_of_block o ≡ Some x → (b : Block) × (o ≡ Some b) × (content_of_block b ≡ x)
from-block None x e = absurd cc
from-block (Some b) x e = (b, refl, cc)

from-page : (c : DriveConfig) (i : ℕ) (g : Going) (b : Bool) (x : PageContent) → (if b then Some (page_of_write c g i) else None) ≡ Some x → (b ≡ true) × (page_of_write c g i ≡ x)
from-page c i g true x e = (refl, cc)
from-page c i g false x e = absurd cc

pub from-flight : (c : DriveConfig) (s : PlainState) (i : ℕ) (o : Option Going) (x : PageContent) → option_and_then (placed_page c s i) o ≡ Some x → (g : Going) × (o ≡ Some g) × (i < g.placed) × (page_of_write c g i ≡ x) × (is_there s g ≡ true)
from-flight c s i None x e = absurd cc
from-flight c s i (Some g) x e =
    let was = from-page c i g _ x e in
    let both = and_parts (is_there s g) (nat_lt i g.placed) was.0 in
    (g, refl, ltb-true i g.placed both.1, was.1, both.0)

-- no pointer had a page of the name that is placed next
new-name : (c : DriveConfig) (p : Point) (ticket index unit page : ℕ) → IsOrderlyState c p.state → IsStanding c p → (placed : IsPlaced c p ticket index unit page) → (q : Pointer) (x : PageContent) → content_at c p.state q ≡ Some x → x.name ≢ written ticket index
new-name c p ticket index unit page orderly standing placed (of_block nsid lba) x e named =
    let was = from-block (p.state.blocks nsid lba) x e in
    let name : was.0.page ≡ written ticket index = ap (λ (y : PageContent). y.name) was.2 ∙ named in
    (standing.blocks nsid lba was.0 was.1).ended ticket index placed.queue placed.going name placed.going_is placed.same
new-name c p ticket index unit page orderly standing placed (of_flight queue i) x e named =
    let was = from-flight c p.state i (p.state.going queue) x e in
    let name : written was.0.ticket i ≡ written ticket index = ap (λ (y : PageContent). y.name) was.3 ∙ named in
    let ticket_is : was.0.ticket ≡ ticket = cc in
    let index_is : i ≡ index = cc in
    let here : queue ≡ placed.queue = orderly.tickets queue placed.queue was.0 placed.going was.1 placed.going_is (ticket_is ∙ sym placed.same) in
    let both : Some was.0 ≡ Some placed.going = sym was.1 ∙ ap p.state.going here ∙ placed.going_is in
    let is : was.0 ≡ placed.going = cc in
    let low : i < was.0.placed = was.2 in
    let count : was.0.placed ≡ placed.going.placed = ap (λ (g : Going). g.placed) is in
    omega (arith, low, index_is, count, placed.next)

pub table-placed : (c : DriveConfig) (p : Point) (ticket index : ℕ) (y : Page) (pages : ℕ → ℕ) (at : Behind Page) → IsOrderlyState c p.state → IsStanding c p → (placed : IsPlaced c p ticket index y.spot.unit y.spot.page) → y.spot.page ≡ pages y.spot.unit → IsTableOf c p pages at
    → IsTableOf c (next c p (entries.Placed (record { ticket = ticket; index = index; unit = y.spot.unit; page = y.spot.page }))) (with_next pages y.spot) (pointed at placed.queue index y)
unfolding next traced_by
table-placed c p ticket index y pages at orderly standing placed fresh h = record {
  follows = follows-as (pointed (content_at c p.state) placed.queue index (page_of_write c placed.going index)) (content_at c (next c p (entries.Placed (record { ticket = ticket; index = index; unit = y.spot.unit; page = y.spot.page }))).state) (next c p (entries.Placed (record { ticket = ticket; index = index; unit = y.spot.unit; page = y.spot.page }))).trail.site (pointed at placed.queue index y)
      (contents-placed c p ticket index y.spot.unit y.spot.page orderly placed)
      (follows-pointed (content_at c p.state) p.trail.site at placed.queue index ticket (page_of_write c placed.going index) y (ap (λ (t : ℕ). written t index) placed.same) h.follows (new-name c p ticket index y.spot.unit y.spot.page orderly standing placed));
  apart = apart-pointed at placed.queue index y (λ q z e same. unlike pages y.spot z.spot fresh (h.below q z e) (sym same)) h.apart;
  below = below-pointed pages (with_next pages y.spot) at placed.queue index y (rises pages y.spot fresh) (own-next pages y.spot) h.below;
  copies = λ rg. copies-pointed pages at placed.queue index y (p.trail.copies rg) fresh (h.copies rg);
}

-- ---- the next page of a unit was skipped

pub table-raised : (c : DriveConfig) (p : Point) (pages more : ℕ → ℕ) (at : Behind Page) → ((unit : ℕ) → pages unit ≤ more unit) → IsTableOf c p pages at → IsTableOf c p more at
table-raised c p pages more at up h = record {
  follows = h.follows;
  apart = h.apart;
  below = λ q y e. let low : y.spot.page < pages y.spot.unit = h.below q y e in omega (arith, low, up y.spot.unit);
  copies = λ rg. copies-raised pages more at (p.trail.copies rg) up (h.copies rg);
}

-- ---- what the table tells of a point

-- the site of the page of a pointer
pub site-at : (c : DriveConfig) (p : Point) (pages : ℕ → ℕ) (at : Behind Page) → IsTableOf c p pages at → (q : Pointer) (y : Page) → at q ≡ Some y → (x : PageContent) × (content_at c p.state q ≡ Some x) × (p.trail.site x.name ≡ Some y.spot)
site-at c p pages at h q y e = told (content_at c p.state q) (h.follows q ∙ ap (option_map (λ (z : Page). Some z.spot)) e) where
  told : (o : Option PageContent) → option_map (λ (x : PageContent). p.trail.site x.name) o ≡ Some (Some y.spot) → (x : PageContent) × (o ≡ Some x) × (p.trail.site x.name ≡ Some y.spot)
  told None e = absurd cc
  told (Some x) is = (x, refl, cc)

-- where a block stands is where its pointer leads; an absent one stands nowhere
pub block-at : (c : DriveConfig) (p : Point) (pages : ℕ → ℕ) (at : Behind Page) → IsTableOf c p pages at → (nsid lba : ℕ) → site_of p nsid lba ≡ option_map (λ (y : Page). y.spot) (at (of_block nsid lba))
block-at c p pages at h nsid lba = told (p.state.blocks nsid lba) (at (of_block nsid lba)) (h.follows (of_block nsid lba)) where
  told : (o : Option Block) (a : Option Page) → option_map (λ (x : PageContent). p.trail.site x.name) (option_map content_of_block o) ≡ option_map (λ (y : Page). Some y.spot) a → option_and_then (λ (b : Block). p.trail.site b.page) o ≡ option_map (λ (y : Page). y.spot) a
  told None None e = refl
  told None (Some y) e = absurd cc
  told (Some b) None e = absurd cc
  told (Some b) (Some y) e = cc

-- a unit into which no pointer leads has no block
pub free-empty : (c : DriveConfig) (p : Point) (pages : ℕ → ℕ) (at : Behind Page) → IsTableOf c p pages at → (unit : ℕ) → IsFree unit at → (nsid lba : ℕ) → IfSome (site_of p nsid lba) (λ (spot : Spot). spot.unit ≢ unit)
free-empty c p pages at h unit free nsid lba = subst (λ (o : Option Spot). IfSome o (λ (spot : Spot). spot.unit ≢ unit)) (sym (block-at c p pages at h nsid lba)) (told (at (of_block nsid lba)) refl) where
  told : (a : Option Page) → at (of_block nsid lba) ≡ a → IfSome (option_map (λ (y : Page). y.spot) a) (λ (spot : Spot). spot.unit ≢ unit)
  told None e = tt
  told (Some y) e = free (of_block nsid lba) y e
