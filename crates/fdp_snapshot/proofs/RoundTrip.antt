-- The checkpoint of a state says that state.
use Rattle.std.proofs.Common.{◌≡◌, ℕ, ◌-◌, ◌*◌, ◌≤◌, Bool, true, false, IsTrue, List, [], ◌∷◌, ◌++◌, length, take, drop, min, Option, refl, sym, ap, ◌∙◌, arith, append_assoc}
use Rattle.std.specs.Prelude.{◌==◌, if◌then◌else◌, All, flat_map, map, slice_index}
use Rattle.std.proofs.lemmas.List.{drop-append-le, drop_at, length-append, length-drop, length-replicate, take-append-le, take_at}
use Rattle.std.proofs.lemmas.List.Elements.{All-head, All-tail}
use Rattle.fdp_rules.specs.LogPages.{event_bytes}
use Rattle.fdp_records.specs.Bytes.{◌⊕◌, Piece, items, part, value}
use Rattle.fdp_records.proofs.Laying.{AreHeld, Holds, laid_held, length-items}
use Rattle.fdp_records.proofs.Telling.{byte_held, items_held, number_held, part_held}
use Rattle.fdp_snapshot.specs.declared.keys.HandleRow.{HandleRow}
use Rattle.fdp_snapshot.specs.declared.space.Space.{Space}
use Rattle.fdp_snapshot.specs.declared.state.State.{State}
use Rattle.fdp_snapshot.specs.declared.state.Summary.{Summary}
use Rattle.fdp_snapshot.specs.Checkpoint.{IsState, checkpoint_of, checkpoint_size, is_checkpoint, page_list_bytes}
use Rattle.fdp_snapshot.specs.Events.{IsPlain, event_at}
use Rattle.fdp_snapshot.specs.Fixed.{IsSummary, fixed_of}
use Rattle.fdp_snapshot.specs.Lengths.{event_long, space_long}
use Rattle.fdp_snapshot.specs.Reading.{blocks_in, page_lists, size_of_row, sizes_of, state_in, summary_in}
use Rattle.fdp_snapshot.specs.Rows.{IsEntry, configuration_bytes, configuration_in, page_bytes, page_in, space_bytes, space_in, zeros}
use Rattle.fdp_snapshot.specs.Sizes.{RowFits, SummaryFits}
use Rattle.fdp_snapshot.proofs.FixedPart.{fixed_ascends, fixed_long, fixed_pieces}
use Rattle.fdp_snapshot.proofs.Judging.{IsOne, one_is}
use Rattle.fdp_snapshot.proofs.RowsBack.{EventIs, SpaceIs, configuration_back, event_back, page_back, space_back}

-- ---- what a list holds, a longer one holds

holds_more : (at : ℕ) (bs xs rest : List ℕ) → Holds at bs xs → Holds at bs (xs ++ rest)
holds_more at bs xs rest h =
    let n = length bs in
    let fits = h.fits in
    record {
      fits = omega (arith, fits, length-append xs rest);
      bytes =
          ap (take n) (drop-append-le at xs rest (omega (arith, fits))) ∙ take-append-le n (drop at xs) rest (omega (arith, fits, length-drop at xs)) ∙ h.bytes;
    }

held_more : (ps : List Piece) (xs rest : List ℕ) → AreHeld ps xs → AreHeld ps (xs ++ rest)
unfolding AreHeld
held_more [] xs rest h = tt
held_more (p ∷ ps) xs rest h = (holds_more p.at p.bytes xs rest h.0, held_more ps xs rest h.1)

is_true : (n : ℕ) (b : Bool) → n ≡ (if b then 1 else 0) → (n == 1) ≡ b
is_true n true e = ap (λ (m : ℕ). m == 1) e
is_true n false e = ap (λ (m : ℕ). m == 1) e

-- what is written of a state beside the pages of its blocks
pub record IsWritten (s : Summary) : Type 0 where
  pub is : IsSummary s
  pub fits : SummaryFits s
  pub host_events : All IsPlain s.host_events
  pub controller_events : All IsPlain s.controller_events

pub summary_back : (version : ℕ) (s : Summary) (rest : List ℕ) → IsWritten s → summary_in (fixed_of version s ++ rest) ≡ s
unfolding summary_in fixed_of AreHeld
summary_back version s rest w =
    let page = fixed_of version s ++ rest in
    let fit = w.fits in
    let h : AreHeld (fixed_pieces version s) page = held_more (fixed_pieces version s) (fixed_of version s) rest (laid_held 0 5120 (fixed_pieces version s) (zeros 5120) (length-replicate {A = ℕ} 5120 0) (fixed_ascends version s w.is fit.lists.masks)) in
    let generation : value (12 ⊕ 4) page ≡ s.generation = number_held 12 4 s.generation page fit.head.generation h.1.1.0 in
    let position : value (16 ⊕ 8) page ≡ s.totals.position = number_held 16 8 s.totals.position page fit.head.totals.position h.1.1.1.0 in
    let host : value (24 ⊕ 8) page ≡ s.totals.host_blocks = number_held 24 8 s.totals.host_blocks page fit.head.totals.host_blocks h.1.1.1.1.0 in
    let media : value (32 ⊕ 8) page ≡ s.totals.media_blocks = number_held 32 8 s.totals.media_blocks page fit.head.totals.media_blocks h.1.1.1.1.1.0 in
    let erases : value (40 ⊕ 8) page ≡ s.totals.erases = number_held 40 8 s.totals.erases page fit.head.totals.erases h.1.1.1.1.1.1.0 in
    let enabled : (slice_index page 48 == 1) ≡ s.enabled = is_true (slice_index page 48) s.enabled (byte_held 48 (if s.enabled then 1 else 0) page h.1.1.1.1.1.1.1.0) in
    let index : slice_index page 49 ≡ s.index = byte_held 49 s.index page h.1.1.1.1.1.1.1.1.0 in
    let k = h.1.1.1.1.1.1.1.1.1 in
    let block : value (64 ⊕ 4) page ≡ s.keys.block = number_held 64 4 s.keys.block page fit.keys.block k.0 in
    let unit_pages : value (68 ⊕ 4) page ≡ s.keys.unit_pages = number_held 68 4 s.keys.unit_pages page fit.keys.unit_pages k.1.0 in
    let groups : value (72 ⊕ 4) page ≡ s.keys.groups = number_held 72 4 s.keys.groups page fit.keys.groups k.1.1.0 in
    let units : value (76 ⊕ 4) page ≡ s.keys.units = number_held 76 4 s.keys.units page fit.keys.units k.1.1.1.0 in
    let area_units : value (80 ⊕ 4) page ≡ s.keys.area_units = number_held 80 4 s.keys.area_units page fit.keys.area_units k.1.1.1.1.0 in
    let queues : value (84 ⊕ 4) page ≡ s.keys.queues = number_held 84 4 s.keys.queues page fit.keys.queues k.1.1.1.1.1.0 in
    let blocks : value (88 ⊕ 4) page ≡ s.keys.blocks_per_command = number_held 88 4 s.keys.blocks_per_command page fit.keys.blocks_per_command k.1.1.1.1.1.1.0 in
    let few = w.is.configurations in
    let count : value (92 ⊕ 4) page ≡ length s.keys.configurations = number_held 92 4 (length s.keys.configurations) page (omega (arith, few)) k.1.1.1.1.1.1.1.0 in
    let least : min (value (92 ⊕ 4) page) 4 ≡ length s.keys.configurations = omega (arith, few, count) in
    let rows : items 4 configuration_in (min (value (92 ⊕ 4) page) 4) (drop 96 page) ≡ s.keys.configurations =
    ap (λ (n : ℕ). items 4 configuration_in n (drop 96 page)) least ∙ items_held 4 96 configuration_bytes configuration_in RowFits (λ (x : HandleRow). refl) configuration_back s.keys.configurations page fit.keys.configurations k.1.1.1.1.1.1.1.1.0 in
    let l = k.1.1.1.1.1.1.1.1.1 in
    let masks : part (112 ⊕ 16) page ≡ s.masks = part_held 112 16 s.masks page fit.lists.masks l.0 in
    let spaces : items 40 space_in 16 (drop 128 page) ≡ s.spaces =
    ap (λ (n : ℕ). items 40 space_in n (drop 128 page)) (sym w.is.places)
    ∙ items_held 40 128 space_bytes space_in SpaceIs space_long space_back s.spaces page (λ i d lt. (w.is.spaces i d lt, fit.lists.spaces i d lt)) l.1.0 in
    let hosts : slice_index page 768 ≡ length s.host_events = byte_held 768 (length s.host_events) page l.1.1.0 in
    let host_count : min (slice_index page 768) 32 ≡ length s.host_events = omega (arith, hosts, w.is.host_count) in
    let controllers : slice_index page 769 ≡ length s.controller_events = byte_held 769 (length s.controller_events) page l.1.1.1.0 in
    let controller_count : min (slice_index page 769) 32 ≡ length s.controller_events = omega (arith, controllers, w.is.controller_count) in
    let host_events : items 64 event_at (min (slice_index page 768) 32) (drop 832 page) ≡ s.host_events =
    ap (λ (n : ℕ). items 64 event_at n (drop 832 page)) host_count
    ∙ items_held 64 832 event_bytes event_at EventIs event_long event_back s.host_events page (λ i d lt. (w.host_events i d lt, fit.lists.host_events i d lt)) l.1.1.1.1.0 in
    let controller_events : items 64 event_at (min (slice_index page 769) 32) (drop 2880 page) ≡ s.controller_events =
    ap (λ (n : ℕ). items 64 event_at n (drop 2880 page)) controller_count
    ∙ items_held 64 2880 event_bytes event_at EventIs event_long event_back s.controller_events page (λ i d lt. (w.controller_events i d lt, fit.lists.controller_events i d lt)) l.1.1.1.1.1.0 in
    λ i. record {
      keys = record {
        block = block i;
        unit_pages = unit_pages i;
        groups = groups i;
        units = units i;
        area_units = area_units i;
        queues = queues i;
        blocks_per_command = blocks i;
        configurations = rows i;
      };
      totals = record { position = position i; host_blocks = host i; media_blocks = media i; erases = erases i };
      enabled = enabled i;
      index = index i;
      generation = generation i;
      masks = masks i;
      spaces = spaces i;
      host_events = host_events i;
      controller_events = controller_events i;
    }

-- ---- the pages of the blocks

list_long : (list : List (Option ℕ)) → length (flat_map page_bytes list) ≡ 4 * length list
list_long list = length-items page_bytes 4 (λ (x : Option ℕ). refl) list

pub lists_long : (pages : List (List (Option ℕ))) (spaces : List (Option Space)) → map length pages ≡ map size_of_row spaces → length (page_list_bytes pages) ≡ 4 * blocks_in spaces
unfolding blocks_in
lists_long [] [] same = refl
lists_long [] (x ∷ xs) same = absurd cc
lists_long (p ∷ ps) [] same = absurd cc
lists_long (p ∷ ps) (x ∷ xs) same =
    let first : length p ≡ size_of_row x = cc in
    let others : map length ps ≡ map size_of_row xs = cc in
    length-append (flat_map page_bytes p) (page_list_bytes ps) ∙ omega (arith, list_long p, first, lists_long ps xs others)

lists_back : (pages : List (List (Option ℕ))) (rest : List ℕ) → All (λ list. All IsEntry list) pages → page_lists (map length pages) (page_list_bytes pages ++ rest) ≡ pages
unfolding page_lists
lists_back [] rest fits = refl
lists_back (p ∷ ps) rest fits =
    let mine = flat_map page_bytes p in
    let more = page_list_bytes ps ++ rest in
    let bytes : page_list_bytes (p ∷ ps) ++ rest ≡ mine ++ more = append_assoc mine (page_list_bytes ps) rest in
    let held : Holds 0 mine (mine ++ more) = record { fits = omega (arith, length-append mine more); bytes = take_at mine more (length mine) refl } in
    let first : items 4 page_in (length p) (mine ++ more) ≡ p = items_held 4 0 page_bytes page_in IsEntry (λ (x : Option ℕ). refl) page_back p (mine ++ more) (All-head (λ (list : List (Option ℕ)). All IsEntry list) p ps fits) held in
    let behind : drop (4 * length p) (mine ++ more) ≡ more = drop_at mine more (4 * length p) (list_long p) in
    let others : page_lists (map length ps) (drop (4 * length p) (mine ++ more)) ≡ ps =
    ap (page_lists (map length ps)) behind ∙ lists_back ps rest (All-tail (λ (list : List (Option ℕ)). All IsEntry list) p ps fits) in
    ap (page_lists (map length (p ∷ ps))) bytes ∙ (λ i. first i ∷ others i)

-- ---- the whole

record IsBack (version len : ℕ) (s : State) : Type 0 where
  one : IsOne version (checkpoint_of version len s)
  told : state_in (checkpoint_of version len s) ≡ s

back : (version len : ℕ) (s : State) → IsState s → SummaryFits s.summary → checkpoint_size s.summary ≤ len → IsBack version len s
unfolding checkpoint_of state_in checkpoint_size
back version len s is fits room =
    let fixed = fixed_of version s.summary in
    let lists = page_list_bytes s.pages in
    let size = checkpoint_size s.summary in
    let filler = zeros (len - size) in
    let rest = lists ++ filler in
    let bytes = checkpoint_of version len s in
    let w : IsWritten s.summary = record { is = is.summary; fits = fits; host_events = is.host_events; controller_events = is.controller_events } in
    let whole : bytes ≡ fixed ++ rest = append_assoc fixed lists filler in
    let long : length fixed ≡ 5120 = fixed_long version s.summary is.summary fits.lists.masks in
    let listed : length lists ≡ 4 * blocks_in s.summary.spaces = lists_long s.pages s.summary.spaces is.sizes in
    let summary : summary_in bytes ≡ s.summary = ap summary_in whole ∙ summary_back version s.summary rest w in
    let front : take 5120 bytes ≡ fixed = ap (take 5120) whole ∙ take_at fixed rest 5120 long in
    let ends : drop size bytes ≡ filler = ap (drop size) (whole ∙ sym (append_assoc fixed lists filler)) ∙ drop_at (fixed ++ lists) filler size (length-append fixed lists ∙ omega (arith, long, listed)) in
    let total : length bytes ≡ len = ap length whole ∙ omega (arith, long, listed, length-append fixed rest, length-append lists filler, length-replicate {A = ℕ} (len - size) 0, room) in
    record {
      one = record {
        room = rw (summary, total) room;
        fixed = ap (fixed_of version) summary ∙ sym front;
        behind = (λ i. zeros (total i - checkpoint_size (summary i))) ∙ sym ends ∙ ap (λ (n : ℕ). drop n bytes) (ap checkpoint_size (sym summary));
      };
      told =
          let back-pages : page_lists (sizes_of (summary_in bytes)) (drop 5120 bytes) ≡ s.pages =
          ap (λ (x : Summary). page_lists (sizes_of x) (drop 5120 bytes)) summary ∙ ap (page_lists (sizes_of s.summary)) (ap (drop 5120) whole ∙ drop_at fixed rest 5120 long)
          ∙ ap (λ (ns : List ℕ). page_lists ns rest) (sym is.sizes) ∙ lists_back s.pages filler is.pages in
          λ i. record { summary = summary i; pages = back-pages i };
    }

-- a checkpoint that is written is one
pub written_is : (version len : ℕ) (s : State) → IsState s → SummaryFits s.summary → checkpoint_size s.summary ≤ len → IsTrue (is_checkpoint version (checkpoint_of version len s))
written_is version len s is fits room = one_is version (checkpoint_of version len s) (back version len s is fits room).one

-- and says the state that it was written from
pub written_told : (version len : ℕ) (s : State) → IsState s → SummaryFits s.summary → checkpoint_size s.summary ≤ len → state_in (checkpoint_of version len s) ≡ s
written_told version len s is fits room = (back version len s is fits room).told

-- it has as many bytes as were asked for
pub written_long : (version len : ℕ) (s : State) → IsState s → SummaryFits s.summary → checkpoint_size s.summary ≤ len → length (checkpoint_of version len s) ≡ len
unfolding checkpoint_of checkpoint_size
written_long version len s is fits room =
    let fixed = fixed_of version s.summary in
    let lists = page_list_bytes s.pages in
    let filler = zeros (len - checkpoint_size s.summary) in
    length-append (fixed ++ lists) filler
    ∙ omega (arith, length-append fixed lists, fixed_long version s.summary is.summary fits.lists.masks, lists_long s.pages s.summary.spaces is.sizes, length-replicate {A = ℕ} (len - checkpoint_size s.summary) 0, room)
