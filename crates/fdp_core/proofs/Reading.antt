-- How blocks are read, one behind another.
use Rattle.std.proofs.Common.{◌≡◌, ℕ, zero, suc, ◌+◌, ◌-◌, ◌*◌, ◌<◌, ◌≤◌, true, false, IsTrue, List, [], ◌∷◌, ◌++◌, length, take, drop, replicate, refl, ap, sym, ◌∙◌, subst, arith, Some, None, Option, length-append}
use Rattle.std.specs.Prelude.{flat_map, option_and_then, Result, Ok, Err, OnOk, OnErr}
use Rattle.std.specs.List.{cons_option, filter_map}
use Rattle.std.specs.Option.{option_map_or}
use Rattle.std.proofs.lemmas.Grind.{flat_map-append}
use Rattle.std.proofs.lemmas.List.{append-nil, length-drop, length-replicate, length-take, drop-replicate, take-replicate}
use Rattle.std.proofs.lemmas.List.Elements.{filter_map-append}
use Rattle.std.proofs.lemmas.Slice.{drop-put_mid, take-put_mid}
use borrow.Rule.Slice.PartMut.{put_mid}
use Rattle.fdp_base.specs.declared.config.DriveConfig.{DriveConfig}
use Rattle.fdp_base.specs.declared.entry.Spot.{Spot}
use Rattle.fdp_rules.specs.Answer.{read_block}
use Rattle.fdp_rules.specs.LogPages.{zeros}
use Rattle.fdp_base.specs.Numbers.{numbers_from}
use Rattle.fdp_rules.specs.PlainState.{Block, PlainState}
use Rattle.fdp_relocation.specs.fdp_collector.Copying.{Holds}
use Rattle.fdp_flash.specs.FlashState.{Call, FlashState}
use Rattle.fdp_history.specs.OrderlyState.{IsOrderlyState}
use Rattle.fdp_relocation.specs.fdp_book.declared.book.reading.Page.{Page}
use Rattle.fdp_base.specs.declared.command.Read.{Read}
use Rattle.fdp_relocation.specs.fdp_book.Book.{BookSeen, point_in, state_in}
use Rattle.fdp_calls.specs.Calls.{IsKept, IsWholeAt, MakesCalls, fetch_at}
use Rattle.fdp_core.specs.Fetches.{FailsToFetch, MakesFetches, fetches_of, page_of, pages_of}
use Rattle.fdp_calls.specs.Media.{IsReadFrom}
use Rattle.fdp_relocation.specs.fdp_book.Reading.{IsPageOf, StandsAt}
use Rattle.fdp_core.specs.ReadSteps.{blocks_from}
use Rattle.fdp_core.specs.Seen.{HoldsHistory}
use Rattle.fdp_calls.proofs.Made.{calls-joined, calls-none}
use Rattle.fdp_flash.proofs.Runs.{no_run, runs_joined, runs_weakened}

-- ---- calls that read, one after another

pub kept-joined : (a b c : FlashState) → IsKept a b → IsKept b c → IsKept a c
kept-joined a b c p q = record {
  geometry = q.geometry ∙ p.geometry;
  told = q.told ∙ p.told;
  reliable = q.reliable ∙ p.reliable;
  moment = omega (arith, p.moment, q.moment);
  faults = omega (arith, p.faults, q.faults);
}

pub read-none : (a : FlashState) → IsReadFrom a a
read-none a = record { kept = record { geometry = refl; told = refl; reliable = refl; moment = omega arith; faults = omega arith }; stops = no_run a (λ m image. image ≡ a.cells); programs = refl; cells = λ _. refl }

pub read-joined : (a b c : FlashState) → IsReadFrom a b → IsReadFrom b c → IsReadFrom a c
read-joined a b c p q = record {
  kept = kept-joined a b c p.kept q.kept;
  stops = runs_joined a b c (λ m image. image ≡ a.cells) p.stops
      (runs_weakened b c (λ m image. image ≡ b.cells) (λ m image. image ≡ a.cells) q.stops (λ told m image above most same. same ∙ p.cells (sym p.kept.told ∙ told)));
  programs = q.programs ∙ p.programs;
  cells = λ tells. q.cells (p.kept.told ∙ tells) ∙ p.cells tells;
}

-- ---- the page of a block

stands-as : (b : BookSeen) (block : Option Block) (page : Page) → StandsAt b block (Some page) → (x : Block) × (block ≡ Some x) × IsPageOf b x page
stands-as b None page h = absurd h
stands-as b (Some x) page h = (x, refl, h)

-- the page of a block is whole, with the spare that is asked for
pub whole-there : (f : FlashState) (b : BookSeen) (block : Option Block) (page : Page) → HoldsHistory f b → StandsAt b block (Some page) → IsTrue f.told → IsWholeAt f page.spot page.spare
whole-there f b block page stored h tells =
    let is = (stands-as b block page h).2 in
    (is.written.bytes, subst (λ (xs : List ℕ). Holds f.geometry f.cells page.spot xs is.written.bytes) is.spare ((stored tells).whole page.spot is.written is.holds))

-- ---- the fetches

numbers-last : (first n : ℕ) → numbers_from first (suc n) ≡ numbers_from first n ++ (first + n) ∷ []
unfolding numbers_from
numbers-last first zero = let e : first ≡ first + 0 = omega arith in ap (λ x. x ∷ []) e
numbers-last first (suc n) =
    let e : first + 1 + n ≡ first + suc n = omega arith in
    ap (λ (xs : List ℕ). first ∷ xs) (numbers-last (first + 1) n) ∙ ap (λ x. first ∷ (numbers_from (first + 1) n ++ x ∷ [])) e

-- the page of a block that is there
pub page-is : (b : BookSeen) (nsid lba : ℕ) (page : Page) → StandsAt b ((state_in b).blocks nsid lba) (Some page) → page_of b nsid lba ≡ Some page.spot
page-is b nsid lba page h =
    let stands = stands-as b ((state_in b).blocks nsid lba) page h in
    ap (option_and_then (λ (x : Block). (point_in b).trail.site x.page)) stands.1 ∙ stands.2.site

absent-as : (b : BookSeen) (block : Option Block) → StandsAt b block None → block ≡ None
absent-as b None h = refl
absent-as b (Some x) h = absurd h

pages-one : (b : BookSeen) (nsid lba : ℕ) → pages_of b nsid lba 1 ≡ cons_option (page_of b nsid lba) []
unfolding numbers_from
pages-one b nsid lba = refl

-- a block that is not there is not fetched
pub fetches-absent : (f : FlashState) (b : BookSeen) (nsid lba : ℕ) → StandsAt b ((state_in b).blocks nsid lba) None → MakesCalls f f (fetches_of (pages_of b nsid lba 1))
fetches-absent f b nsid lba h =
    let none : page_of b nsid lba ≡ None = ap (option_and_then (λ (x : Block). (point_in b).trail.site x.page)) (absent-as b ((state_in b).blocks nsid lba) h) in
    let pages : pages_of b nsid lba 1 ≡ [] = pages-one b nsid lba ∙ ap (λ (o : Option Spot). cons_option o []) none in
    subst (λ (xs : List Spot). MakesCalls f f (fetches_of xs)) (sym pages) (calls-none f)

-- a block that is there is fetched from its page
pub fetches-there : (f g : FlashState) (b : BookSeen) (nsid lba : ℕ) (page : Page) → StandsAt b ((state_in b).blocks nsid lba) (Some page) → MakesCalls f g (fetch_at page.spot false ∷ []) → MakesCalls f g (fetches_of (pages_of b nsid lba 1))
fetches-there f g b nsid lba page h made =
    let pages : pages_of b nsid lba 1 ≡ page.spot ∷ [] = pages-one b nsid lba ∙ ap (λ (o : Option Spot). cons_option o []) (page-is b nsid lba page h) in
    subst (λ (xs : List Spot). MakesCalls f g (fetches_of xs)) (sym pages) made

pub fetch-fails : (f g : FlashState) (b : BookSeen) (nsid lba : ℕ) (page : Page) → StandsAt b ((state_in b).blocks nsid lba) (Some page) → MakesCalls f g (fetch_at page.spot true ∷ []) → FailsToFetch f g b nsid lba
fetch-fails f g b nsid lba page h made = record { page = page.spot; page_is = page-is b nsid lba page h; made = made }

pub fetches-none : (f : FlashState) (b : BookSeen) (nsid slba : ℕ) → MakesCalls f f (fetches_of (pages_of b nsid slba 0))
unfolding numbers_from
fetches-none f b nsid slba = calls-none f

fetches-append : (xs ys : List Spot) → fetches_of (xs ++ ys) ≡ fetches_of xs ++ fetches_of ys
fetches-append [] ys = refl
fetches-append (x ∷ xs) ys = ap (λ (zs : List Call). fetch_at x false ∷ zs) (fetches-append xs ys)

-- the fetches of one block more
pub fetches-more : (f g h : FlashState) (b : BookSeen) (nsid slba n : ℕ) → MakesCalls f g (fetches_of (pages_of b nsid slba n)) → MakesCalls g h (fetches_of (pages_of b nsid (slba + n) 1)) → MakesCalls f h (fetches_of (pages_of b nsid slba (n + 1)))
fetches-more f g h b nsid slba n first one =
    let count : n + 1 ≡ suc n = omega arith in
    let pages : pages_of b nsid slba (n + 1) ≡ pages_of b nsid slba n ++ pages_of b nsid (slba + n) 1 =
    ap (pages_of b nsid slba) count ∙ ap (filter_map (page_of b nsid)) (numbers-last slba n) ∙ filter_map-append (page_of b nsid) (numbers_from slba n) ((slba + n) ∷ [])
    ∙ ap (λ (xs : List Spot). pages_of b nsid slba n ++ xs) (sym (pages-one b nsid (slba + n))) in
    subst (MakesCalls f h) (sym (ap fetches_of pages ∙ fetches-append (pages_of b nsid slba n) (pages_of b nsid (slba + n) 1)))
    (calls-joined f g h (fetches_of (pages_of b nsid slba n)) (fetches_of (pages_of b nsid (slba + n) 1)) first one)

-- the fetches up to one that failed
pub fetches-cut : (f g h : FlashState) (b : BookSeen) (x : Read) (n : ℕ) → n < x.count → MakesCalls f g (fetches_of (pages_of b x.nsid x.slba n)) → FailsToFetch g h b x.nsid (x.slba + n) → MakesFetches f h b x true
fetches-cut f g h b x n below first one = record {
  calls = fetches_of (pages_of b x.nsid x.slba n) ++ fetch_at one.page true ∷ [];
  made = calls-joined f g h (fetches_of (pages_of b x.nsid x.slba n)) (fetch_at one.page true ∷ []) first one.made;
  fetches = record { index = n; within = below; page = one.page; page_is = one.page_is; calls_are = refl };
}

-- what holds at all holds of an error
pub at-error : {X E : Type 0} (r : Result X E) (P : Type 0) → P → OnErr r P
at-error (Ok x) P p = tt
at-error (Err e) P p = p

-- what follows where the result is no error holds of the result
pub at-success : {X E : Type 0} (r : Result X E) (P Q : Type 0) → OnOk r P → (P → Q) → OnOk r Q
at-success (Ok x) P Q p f = f p
at-success (Err e) P Q p f = tt

-- ---- so many blocks

-- a block more
pub blocks_from-more : (b : BookSeen) (nsid slba n : ℕ) → blocks_from b nsid slba (n + 1) ≡ blocks_from b nsid slba n ++ read_block b.config (state_in b) nsid (slba + n)
blocks_from-more b nsid slba n =
    let e : n + 1 ≡ suc n = omega arith in
    let one = read_block b.config (state_in b) nsid in
    ap (blocks_from b nsid slba) e ∙ ap (flat_map one) (numbers-last slba n) ∙ flat_map-append one (numbers_from slba n) ((slba + n) ∷ [])
    ∙ ap (λ (xs : List ℕ). flat_map one (numbers_from slba n) ++ xs) (append-nil (one (slba + n)))

length-block : (c : DriveConfig) (s : PlainState) (nsid lba : ℕ) → IsOrderlyState c s → length (read_block c s nsid lba) ≡ c.block
length-block c s nsid lba h = of-block (s.blocks nsid lba) refl
  where
    of-block : (o : Option Block) → s.blocks nsid lba ≡ o → length (read_block c s nsid lba) ≡ c.block
    of-block None e = ap (λ (x : Option Block). length (option_map_or (λ (b : Block). b.bytes) x (zeros c.block))) e ∙ length-replicate c.block 0
    of-block (Some b) e = ap (λ (x : Option Block). length (option_map_or (λ (y : Block). y.bytes) x (zeros c.block))) e ∙ (h.blocks nsid lba b e).bytes

length-blocks : (c : DriveConfig) (s : PlainState) (nsid first n : ℕ) → IsOrderlyState c s → length (flat_map (read_block c s nsid) (numbers_from first n)) ≡ n * c.block
unfolding numbers_from
length-blocks c s nsid first zero h = omega arith
length-blocks c s nsid first (suc n) h =
    omega (arith, length-append (read_block c s nsid first) (flat_map (read_block c s nsid) (numbers_from (first + 1) n)), length-block c s nsid first h, length-blocks c s nsid (first + 1) n h)

pub blocks_from-none : (b : BookSeen) (nsid slba : ℕ) → [] ≡ blocks_from b nsid slba 0
unfolding numbers_from
blocks_from-none b nsid slba = refl

-- the bytes of so many blocks
pub length-blocks_from : (b : BookSeen) (nsid slba n : ℕ) → IsOrderlyState b.config (state_in b) → length (blocks_from b nsid slba n) ≡ n * b.config.block
length-blocks_from b nsid slba n h = length-blocks b.config (state_in b) nsid slba n h

-- ---- the buffer

drop-nil : {X : Type 0} (n : ℕ) → [] ≡ drop {A = X} n []
drop-nil zero = refl
drop-nil (suc n) = refl

drop-drop : {X : Type 0} (i k : ℕ) (xs : List X) → drop i (drop k xs) ≡ drop (k + i) xs
drop-drop i zero xs = let e : i ≡ 0 + i = omega arith in ap (λ n. drop n xs) e
drop-drop zero (suc k) [] = drop-nil (suc k + 0)
drop-drop (suc i) (suc k) [] = drop-nil (suc k + suc i)
drop-drop i (suc k) (x ∷ xs) = let e : suc (k + i) ≡ suc k + i = omega arith in drop-drop i k xs ∙ ap (λ n. drop n (x ∷ xs)) e

-- what is left of so many blocks
blocks-left : (count i k : ℕ) → i < count → (count - i) * k ≡ k + (count - (i + 1)) * k
blocks-left count i k h =
    let e : count - i ≡ 1 + (count - (i + 1)) = omega (arith, h) in
    ap (λ n. n * k) e ∙ omega arith

-- nothing was read yet
pub none-filled : (k : ℕ) (xs : List ℕ) → take (0 * k) xs ≡ []
none-filled k xs = let e : 0 * k ≡ 0 = omega arith in ap (λ n. take n xs) e

pub all-left : (count k : ℕ) (xs : List ℕ) → xs ≡ replicate (count * k) 0 → drop (0 * k) xs ≡ replicate ((count - 0) * k) 0
all-left count k xs h =
    let e : 0 * k ≡ 0 = omega arith in
    let all : count ≡ count - 0 = omega arith in
    ap (λ n. drop n xs) e ∙ h ∙ ap (λ n. replicate (n * k) 0) all

-- the place of the next block is all zeros
zeros-next : (count i k : ℕ) (xs : List ℕ) → i < count → drop (i * k) xs ≡ replicate ((count - i) * k) 0 → take (i * k + k - i * k) (drop (i * k) xs) ≡ replicate k 0
zeros-next count i k xs h rest =
    let e : i * k + k - i * k ≡ k = omega arith in
    let left = blocks-left count i k h in
    ap (λ n. take n (drop (i * k) xs)) e ∙ ap (take k) rest ∙ take-replicate k ((count - i) * k) 0 (omega (arith, left))

pub zeros-as : (count i k b : ℕ) (xs : List ℕ) → b ≡ k → i < count → drop (i * k) xs ≡ replicate ((count - i) * k) 0 → take (i * b + b - i * b) (drop (i * b) xs) ≡ replicate k 0
zeros-as count i k b xs same h rest = subst (λ n. take (i * n + n - i * n) (drop (i * n) xs) ≡ replicate k 0) (sym same) (zeros-next count i k xs h rest)

-- what a block more leaves of the buffer
pub record IsFilled (count i k : ℕ) (xs ys zs : List ℕ) : Type 0 where
  pub size : length zs ≡ length xs
  pub done : take ((i + 1) * k) zs ≡ take (i * k) xs ++ ys
  pub rest : drop ((i + 1) * k) zs ≡ replicate ((count - (i + 1)) * k) 0

pub filled-next : (count i k : ℕ) (xs ys : List ℕ) → i < count → length xs ≡ count * k → length ys ≡ k → drop (i * k) xs ≡ replicate ((count - i) * k) 0 → IsFilled count i k xs ys (put_mid (i * k) (i * k + k - i * k) xs ys)
filled-next count i k xs ys h size one rest =
    let left = blocks-left count i k h in
    let behind : length xs - i * k ≡ (count - i) * k = sym (length-drop (i * k) xs) ∙ ap length rest ∙ length-replicate ((count - i) * k) 0 in
    let within : i * k ≤ length xs = of-count in
    let next : (i + 1) * k ≡ i * k + k = omega arith in
    record {
      size = omega (arith, length-append (take (i * k) xs) (ys ++ drop (i * k + k - i * k) (drop (i * k) xs)), length-append ys (drop (i * k + k - i * k) (drop (i * k) xs)), length-take (i * k) xs, length-drop (i * k + k - i * k) (drop (i * k) xs), length-drop (i * k) xs, one, behind, left, within);
      done = take-put_mid (i * k) (i * k + k - i * k) xs ys ((i + 1) * k) (omega (arith, one, next)) within;
      rest = drop-put_mid (i * k) (i * k + k - i * k) xs ys ((i + 1) * k) (omega (arith, next)) within (omega (arith, one))
          ∙ ap (λ n. drop n xs) next ∙ sym (drop-drop k (i * k) xs) ∙ ap (drop k) rest ∙ drop-replicate k ((count - i) * k) 0
          ∙ (let e : (count - i) * k - k ≡ (count - (i + 1)) * k = omega (arith, left) in ap (λ n. replicate n 0) e);
    }
  where
    of-count : i * k ≤ length xs
    of-count = let more : count ≡ i + (count - i) = omega (arith, h) in let e : count * k ≡ i * k + (count - i) * k = ap (λ n. n * k) more ∙ omega arith in omega (arith, size, e)
