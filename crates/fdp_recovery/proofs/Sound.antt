-- What sound images say, and what they cannot be.
use Rattle.std.proofs.Common.{◌≡◌, ◌⊎◌, ℕ, zero, suc, true, false, List, [], ◌∷◌, ◌++◌, length, take, Option, Some, None, refl, sym, ap, ◌∙◌, arith, inl, inr}
use Rattle.std.specs.Prelude.{◌&&◌, ◌==◌, nat_lt, option_map, slice_get}
use Rattle.std.specs.List.{concat}
use Rattle.std.specs.Option.{option_and_then, option_map_or}
use Rattle.std.proofs.lemmas.Bool.Decides.{nat_tests}
use Rattle.std.proofs.lemmas.List.{take_all}
use Rattle.std.proofs.lemmas.List.Sums.{fold-append}
use Rattle.fdp_base.specs.declared.config.DriveConfig.{DriveConfig}
use Rattle.fdp_base.specs.declared.entry.Totals.{Totals}
use Rattle.fdp_base.specs.declared.spare.DataSpare.{DataSpare}
use Rattle.fdp_base.specs.Placement.{geometry_of}
use Rattle.fdp_checkpoint.proofs.OfImage.{none_found}
use Rattle.fdp_flash.specs.declared.cell.Cell.{Cell}
use Rattle.fdp_flash.specs.declared.cell.Cell.TheVariants.{Blank, Torn, Whole}
use Rattle.fdp_image.specs.Applied.{applied, with_changes}
use Rattle.fdp_image.specs.Areas.{Sealed, current_area, data_pages}
use Rattle.fdp_image.specs.Checkpoint.{said_by_checkpoint}
use Rattle.fdp_image.specs.Fits.{all_fit, fits}
use Rattle.fdp_image.specs.Reading.{Reading, group_of_page}
use Rattle.fdp_image.specs.Reads.{changes_in, reads_as, said_by_area, told_by}
use Rattle.fdp_image.specs.Valid.{is_named}
use Rattle.fdp_image.proofs.Fitting.{all_fit-first, all_fit-rest, said_by-made, said_by-parts, sound-made, sound-parts}
use Rattle.fdp_image.proofs.NextRecord.{read_by}
use Rattle.fdp_records.specs.declared.change.Change.{Change}
use Rattle.fdp_records.specs.Spares.{said_by_data}
use Rattle.fdp_state.specs.fdp_replay.Replay.{IsBadAt, IsReplayed, IsUnfitAt}
use Rattle.fdp_state.specs.Parts.{handles_at}
use Rattle.fdp_recovery.specs.Bad.{IsBadPage, IsBadRecord}
use Rattle.fdp_recovery.specs.Blocks.{AreKept, holds, is_kept, is_one_of, names_block}
use Rattle.fdp_recovery.specs.Sound.{IsSoundArea, IsSoundImage}
use Rattle.fdp_recovery.proofs.SameKeys.{and_true}

-- ---- what a sound area says

whole_journal_told : (c : DriveConfig) (journal : List (List ℕ)) (old new : Reading) → (h : IsReplayed fits c journal (length journal) old new) → changes_in journal ≡ Some h.changes
whole_journal_told c journal old new h = ap changes_in (sym (take_all (length journal) journal (omega arith))) ∙ h.told

said_sound : (c : DriveConfig) (z : Sealed) (r : Reading) → IsSoundArea c z r → said_by_area c z ≡ Some r
said_sound c z r h =
    said_by-made c z r (record {
      sound = sound-made c z (record { whole = h.checkpoint.whole; fields = h.checkpoint.fields });
      changes = h.journal.changes;
      told = whole_journal_told c z.journal (said_by_checkpoint (concat z.checkpoint)) r h.journal;
      after = record { fit = h.journal.fit; said = sym h.journal.reading };
    })

-- an area says only what is sound
pub sound_said : (c : DriveConfig) (z : Sealed) (r : Reading) → said_by_area c z ≡ Some r → IsSoundArea c z r
sound_said c z r e =
    let h = said_by-parts c z r e in
    let s = sound-parts c z h.sound in
    record {
      checkpoint = record { whole = s.whole; fields = s.fields };
      journal = record {
        changes = h.changes;
        told = ap changes_in (take_all (length z.journal) z.journal (omega arith)) ∙ h.told;
        fit = h.after.fit;
        reading = sym h.after.said;
      };
    }

pub sound_reads : (c : DriveConfig) (cells : List Cell) (area : ℕ) (z : Sealed) (r : Reading) → current_area (geometry_of c) cells ≡ Some (area, z) → IsSoundArea c z r → reads_as c cells ≡ Some r
sound_reads c cells area z r current h = read_by c cells area z current ∙ said_sound c z r h

pub reads_sound : (c : DriveConfig) (cells : List Cell) (area : ℕ) (z : Sealed) (r : Reading) → current_area (geometry_of c) cells ≡ Some (area, z) → reads_as c cells ≡ Some r → IsSoundArea c z r
reads_sound c cells area z r current read = sound_said c z r (sym (read_by c cells area z current) ∙ read)

-- ---- blocks that are kept

-- what the spare of a page says
said_of : Cell → Option DataSpare
said_of Blank = None
said_of Torn = None
said_of (Whole spare bytes) = said_by_data spare

abbrev spare_at : List Cell → ℕ → Option DataSpare
spare_at cells page = option_and_then said_of (slice_get cells page)

-- a page's spare names a block
record Names (cells : List Cell) (page nsid lba : ℕ) : Type 0 where
  pub spare : DataSpare
  pub said : spare_at cells page ≡ Some spare
  pub nsid_is : spare.nsid ≡ nsid
  pub lba_is : spare.lba ≡ lba

equal_of : (m n : ℕ) → (m == n) ≡ true → m ≡ n
equal_of m n e = grind (arith, nat_tests)

named_by : (c : DriveConfig) (cells : List Cell) (r : Reading) (nsid lba page : ℕ) (cell : Cell) → slice_get cells page ≡ Some cell → holds c r nsid lba page cell ≡ true → Names cells page nsid lba
unfolding said_of
named_by c cells r nsid lba page Blank at e = absurd cc
named_by c cells r nsid lba page Torn at e = absurd cc
named_by c cells r nsid lba page (Whole spare bytes) at e = of_said (said_by_data spare) refl e where
  of_said : (o : Option DataSpare) → said_by_data spare ≡ o → option_map_or (names_block c r nsid lba page) o false ≡ true → Names cells page nsid lba
  of_said None is h = absurd cc
  of_said (Some s) is h =
      let a = and_true (is_named c r nsid lba page s) (is_one_of (handles_at r nsid) s.ruh) h in
      let b = and_true (s.nsid == nsid && s.lba == lba && s.rg == group_of_page c page) (s.generation == r.generation) a.0 in
      let d = and_true (s.nsid == nsid && s.lba == lba) (s.rg == group_of_page c page) b.0 in
      let f = and_true (s.nsid == nsid) (s.lba == lba) d.0 in
      record { spare = s; said = ap (option_and_then said_of) at ∙ is; nsid_is = equal_of s.nsid nsid f.0; lba_is = equal_of s.lba lba f.1 }

kept_names : (c : DriveConfig) (cells : List Cell) (r : Reading) (nsid lba page : ℕ) → is_kept c cells r nsid lba page ≡ true → Names cells page nsid lba
kept_names c cells r nsid lba page e =
    of_cell (slice_get cells page) refl ((and_true (nat_lt page (data_pages (geometry_of c))) (option_map_or (holds c r nsid lba page) (slice_get cells page) false) e).1)
  where
    of_cell : (o : Option Cell) → slice_get cells page ≡ o → option_map_or (holds c r nsid lba page) o false ≡ true → Names cells page nsid lba
    of_cell None at h = absurd cc
    of_cell (Some cell) at h = named_by c cells r nsid lba page cell at h

-- two blocks that are kept on one page are one
pub kept_once : (c : DriveConfig) (cells : List Cell) (r : Reading) (nsid lba other_nsid other_lba page : ℕ) → is_kept c cells r nsid lba page ≡ true → is_kept c cells r other_nsid other_lba page ≡ true
    → (nsid ≡ other_nsid) × (lba ≡ other_lba)
kept_once c cells r nsid lba other_nsid other_lba page this other =
    let a = kept_names c cells r nsid lba page this in
    let b = kept_names c cells r other_nsid other_lba page other in
    let same : a.spare ≡ b.spare = let e : Some a.spare ≡ Some b.spare = sym a.said ∙ b.said in cc in
    (sym a.nsid_is ∙ ap (λ (s : DataSpare). s.nsid) same ∙ b.nsid_is, sym a.lba_is ∙ ap (λ (s : DataSpare). s.lba) same ∙ b.lba_is)

pub kept_apart : (c : DriveConfig) (cells : List Cell) (r : Reading) → AreKept c cells r → (nsid lba other_nsid other_lba page : ℕ) → r.pages nsid lba ≡ Some page → r.pages other_nsid other_lba ≡ Some page
    → (nsid ≡ other_nsid) × (lba ≡ other_lba)
kept_apart c cells r kept nsid lba other_nsid other_lba page there other =
    kept_once c cells r nsid lba other_nsid other_lba page (kept nsid lba page there) (kept other_nsid other_lba page other)

-- ---- a bad page

-- the first page of a journal whose changes are told, and the pages behind it
record IsTold (page : List ℕ) (pages : List (List ℕ)) (changes : List (Change × Totals)) : Type 0 where
  pub first : List (Change × Totals)
  pub rest : List (Change × Totals)
  pub here : told_by page ≡ Some first
  pub behind : changes_in pages ≡ Some rest
  pub are : changes ≡ first ++ rest

told_first : (page : List ℕ) (pages : List (List ℕ)) (changes : List (Change × Totals)) → changes_in (page ∷ pages) ≡ Some changes → IsTold page pages changes
unfolding changes_in
told_first page pages changes told = of_page (told_by page) refl (changes_in pages) refl told where
  of_page : (o : Option (List (Change × Totals))) → told_by page ≡ o → (rest : Option (List (Change × Totals))) → changes_in pages ≡ rest
      → option_and_then (λ (xs : List (Change × Totals)). option_map (λ (ys : List (Change × Totals)). xs ++ ys) rest) o ≡ Some changes → IsTold page pages changes
  of_page None is rest behind told = absurd cc
  of_page (Some x) is None behind told = absurd cc
  of_page (Some x) is (Some xs) behind told = let same : changes ≡ x ++ xs = cc in record { first = x; rest = xs; here = is; behind = behind; are = same }

-- each of its pages tells changes
none_untold : (journal : List (List ℕ)) (changes : List (Change × Totals)) (n : ℕ) (bytes : List ℕ) → changes_in journal ≡ Some changes → slice_get journal n ≡ Some bytes → told_by bytes ≡ None → ⊥
none_untold [] changes n bytes told at none = cc
none_untold (page ∷ pages) changes zero bytes told at none =
    let h = told_first page pages changes told in
    let same : page ≡ bytes = cc in
    let e : Some h.first ≡ None = sym h.here ∙ ap told_by same ∙ none in
    cc
none_untold (page ∷ pages) changes (suc n) bytes told at none = let h = told_first page pages changes told in none_untold pages h.rest n bytes h.behind at none

-- of no page
none_before : (before : List (Change × Totals)) → changes_in [] ≡ Some before → before ≡ []
unfolding changes_in
none_before before e = let none : [] ≡ before = cc in sym none

-- nor does one not fit, where all fit
none_unfit : (c : DriveConfig) (journal : List (List ℕ)) (changes before : List (Change × Totals)) (n : ℕ) (bytes : List ℕ) (more : List (Change × Totals)) (base said : Reading)
    → changes_in journal ≡ Some changes → changes_in (take n journal) ≡ Some before → said ≡ with_changes c base before → all_fit fits c base changes ≡ true
    → slice_get journal n ≡ Some bytes → told_by bytes ≡ Some more → all_fit fits c said more ≡ false → ⊥
none_unfit c [] changes before n bytes more base said told earlier is fit at here unfit = cc
none_unfit c (page ∷ pages) changes before zero bytes more base said told earlier is fit at here unfit =
    let h = told_first page pages changes told in
    let same : page ≡ bytes = cc in
    let first : h.first ≡ more = let e : Some h.first ≡ Some more = sym h.here ∙ ap told_by same ∙ here in cc in
    let start : said ≡ base = is ∙ ap (with_changes c base) (none_before before earlier) in
    let good = all_fit-first fits c base h.first h.rest (sym (ap (all_fit fits c base) h.are) ∙ fit) in
    let bad : all_fit fits c base h.first ≡ false = ap (all_fit fits c base) first ∙ ap (λ (r : Reading). all_fit fits c r more) (sym start) ∙ unfit in
    let e : true ≡ false = sym good ∙ bad in
    cc
none_unfit c (page ∷ pages) changes before (suc n) bytes more base said told earlier is fit at here unfit =
    let h = told_first page pages changes told in
    let k = told_first page (take n pages) before earlier in
    let first : k.first ≡ h.first = let e : Some k.first ≡ Some h.first = sym k.here ∙ h.here in cc in
    let start : said ≡ with_changes c (with_changes c base h.first) k.rest =
    is ∙ ap (with_changes c base) k.are ∙ fold-append (applied c) base k.first k.rest ∙ ap (λ (xs : List (Change × Totals)). with_changes c (with_changes c base xs) k.rest) first in
    none_unfit c pages h.rest k.rest n bytes more (with_changes c base h.first) said h.behind k.behind start
    (all_fit-rest fits c base h.first h.rest (sym (ap (all_fit fits c base) h.are) ∙ fit)) at here unfit

no_bad_record : (c : DriveConfig) (area : ℕ) (z : Sealed) (page : ℕ) (r : Reading) → IsBadRecord c area z page → IsSoundArea c z r → ⊥
no_bad_record c area z page r b h = of_bad b.bad where
  base : Reading
  base = said_by_checkpoint (concat z.checkpoint)

  of_bad : IsBadAt z.journal b.number ⊎ IsUnfitAt fits c z.journal b.number b.said → ⊥
  of_bad (inl bad) = none_untold z.journal h.journal.changes b.number bad.bytes (whole_journal_told c z.journal base r h.journal) bad.page bad.none
  of_bad (inr bad) =
      none_unfit c z.journal h.journal.changes b.before.changes b.number bad.bytes bad.unfit.changes base b.said (whole_journal_told c z.journal base r h.journal) b.before.told b.before.reading h.journal.fit bad.page bad.unfit.told bad.unfit.unfit

-- two readings of a sound area are one
one_reading : (c : DriveConfig) (z : Sealed) (r s : Reading) → IsSoundArea c z r → IsSoundArea c z s → r ≡ s
one_reading c z r s h k = let e : Some r ≡ Some s = sym (said_sound c z r h) ∙ said_sound c z s k in cc

pub no_bad_page : (c : DriveConfig) (cells : List Cell) (area : ℕ) (z : Sealed) (page : ℕ) (r : Reading) → IsBadPage c cells area z page → IsSoundImage c cells z r → ⊥
no_bad_page c cells area z page r (inl bad) h = let e : true ≡ false = sym h.area.checkpoint.whole ∙ none_found c area z page bad in cc
no_bad_page c cells area z page r (inr (inl bad)) h = let e : Some bad.at ≡ None = sym bad.field ∙ h.area.checkpoint.fields in cc
no_bad_page c cells area z page r (inr (inr (inl bad))) h = no_bad_record c area z page r bad h.area
no_bad_page c cells area z page r (inr (inr (inr bad))) h =
    let same = one_reading c z bad.said r bad.area h.area in
    let f = bad.first in
    let there : r.pages f.nsid f.lba ≡ Some page = ap (λ (x : Reading). x.pages f.nsid f.lba) (sym same) ∙ f.there in
    let kept : is_kept c cells r f.nsid f.lba page ≡ true = h.blocks f.nsid f.lba page there in
    let unkept : is_kept c cells r f.nsid f.lba page ≡ false = ap (λ (x : Reading). is_kept c cells x f.nsid f.lba page) (sym same) ∙ f.unkept in
    let e : true ≡ false = sym kept ∙ unkept in
    cc
