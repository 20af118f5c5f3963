-- Texts that are to be records, read one after another.
use Rattle.std.proofs.Common.{◌≡◌, ℕ, ◌+◌, ◌<◌, ◌≤◌, List, [], ◌∷◌, ◌++◌, length, take, map, refl, sym, ap, subst, ◌∙◌, arith, get_or}
use Rattle.std.specs.Prelude.{Option, None, Some, slice_index_or}
use Rattle.std.specs.Global.{Vec}
use Rattle.std.specs.List.{All, AllZip}
use Rattle.std.proofs.lemmas.List.{length-append, map_more, take-map, take_all}
use Rattle.std.proofs.lemmas.List.Elements.{All-push}
use Rattle.fdp_base.specs.declared.limits.TheConstants.{LONGEST_TRACE}
use Rattle.fdp_base.specs.Counts.{Rose}
use Rattle.fdp_io.specs.Bench.{BenchState, SameFlashes, SameTexts}
use Rattle.fdp_finding.specs.declared.fault.Fault.{Fault}
use Rattle.fdp_finding.specs.declared.fault.Fault.TheVariants as faults
use Rattle.fdp_finding.specs.declared.no_record.NoRecord.{NoRecord}
use Rattle.fdp_finding.specs.declared.no_record.NoRecord.TheVariants as records
use Rattle.fdp_finding.specs.Recorded.{ReadsNoRecord, ReadsRecord, number_among}
use Rattle.fdp_finding.specs.Traced.{IsTooLong}
use Rattle.fdp_finding.specs.Wanted.{IsFirstNoRecord, RecordLacks, RecordsLack, texts_in}
use Rattle.fdp_finding.proofs.Texts.{Name, get_map, map_push, named_as_many, same_flashes, same_texts, spelling, told_back, zip_more, zip_weaker}

-- so many of these names are those of texts that may be records, which were read
pub record AreRecords (old new : BenchState) (names : List Name) (index : ℕ) (found : List (Vec ℕ)) : Type 0 where
  pub texts : SameTexts old new
  pub flashes : SameFlashes old new
  pub faults : new.faults ≡ old.faults
  pub count : length found ≡ index
  pub read : AllZip (ReadsRecord old) (map spelling (take index names)) (texts_in found)
  pub short : All (λ text. length text.items ≤ LONGEST_TRACE) found

-- the texts of a bench that kept them were there before
pub none_back : (old mid : BenchState) (name : List ℕ) (cause : NoRecord) → SameTexts old mid → ReadsNoRecord mid name cause → ReadsNoRecord old name cause
none_back old mid name records.Absent same none = told_back (λ found. found ≡ None) old mid name same none
none_back old mid name records.TooLong same long = told_back IsTooLong old mid name same long
none_back old mid name (records.Line line) same none = absurd none

pub record_back : (old mid : BenchState) (name text : List ℕ) → SameTexts old mid → ReadsRecord mid name text → ReadsRecord old name text
record_back old mid name text same read = record { short = read.short; there = told_back (λ found. found ≡ Some text) old mid name same read.there }

pub records_back : (old mid : BenchState) (names texts : List (List ℕ)) → SameTexts old mid → AllZip (ReadsRecord mid) names texts → AllZip (ReadsRecord old) names texts
records_back old mid names texts same = zip_weaker (ReadsRecord mid) (ReadsRecord old) names texts (λ name text. record_back old mid name text same)

pub first_back : (old mid : BenchState) (names : List (List ℕ)) (number : Option ℕ) (cause : NoRecord) → SameTexts old mid → IsFirstNoRecord mid names number cause → IsFirstNoRecord old names number cause
first_back old mid names number cause same first = record {
  index = first.index;
  numbered = first.numbered;
  within = first.within;
  front = first.front;
  read = records_back old mid (take first.index names) first.front same first.read;
  none = none_back old mid (slice_index_or names first.index []) cause same first.none;
}

-- none is read yet
pub no_records : (s : BenchState) (names : List Name) → AreRecords s s names 0 []
no_records s names = record {
  texts = record { told_still = refl; texts = refl };
  flashes = record { images = refl; out = refl };
  faults = refl;
  count = refl;
  read = tt;
  short = λ k x low. absurd (omega arith);
}

-- the next one is read
pub one_record : (old mid new : BenchState) (names : List Name) (index : ℕ) (found : List (Vec ℕ)) (d : Name) (text : Vec ℕ) → AreRecords old mid names index found → index < length names →
    SameTexts mid new → SameFlashes mid new → new.faults ≡ mid.faults → ReadsRecord mid (spelling (get_or names index d)) text.items → AreRecords old new names (index + 1) (found ++ text ∷ [])
one_record old mid new names index found d text before low texts flashes faults reads = record {
  texts = same_texts old mid new before.texts texts;
  flashes = same_flashes old mid new before.flashes flashes;
  faults = faults ∙ before.faults;
  count = length-append found (text ∷ []) ∙ ap (λ n. n + 1) before.count;
  read =
      let name = spelling (get_or names index d) in
      let Read = λ (names : List (List ℕ)) (texts : List (List ℕ)). AllZip (ReadsRecord old) names texts in
      let pairs = zip_more (ReadsRecord old) (map spelling (take index names)) (texts_in found) name text.items before.read (record_back old mid name text.items before.texts reads) in
      subst (λ ns. Read ns (texts_in (found ++ text ∷ []))) (sym (map_more spelling names index d low))
      (subst (Read (map spelling (take index names) ++ name ∷ [])) (sym (map_push (λ (t : Vec ℕ). t.items) found text)) pairs);
  short = All-push (λ (t : Vec ℕ). length t.items ≤ LONGEST_TRACE) found text before.short reads.short;
}

-- all are read
pub all_records : (old new : BenchState) (names : List Name) (index : ℕ) (found : List (Vec ℕ)) → AreRecords old new names index found → length names ≤ index → AllZip (ReadsRecord old) (map spelling names) (texts_in found)
all_records old new names index found before high = subst (λ (ns : List Name). AllZip (ReadsRecord old) (map spelling ns) (texts_in found)) (take_all index names high) before.read

-- the next one is none
pub next_none : (old mid new : BenchState) (names : List Name) (index : ℕ) (found : List (Vec ℕ)) (d : Name) (number : Option ℕ) (fault : Fault) → AreRecords old mid names index found → index < length names →
    number ≡ number_among (length names) (index + 1) → RecordLacks mid new number (spelling (get_or names index d)) fault → RecordsLack old new (map spelling names) fault
next_none old mid new names index found d number faults.Usage before low is lacks = absurd lacks
next_none old mid new names index found d number (faults.Config cause) before low is lacks = absurd lacks
next_none old mid new names index found d number (faults.NoQueue trace) before low is lacks = absurd lacks
next_none old mid new names index found d number (faults.Trace trace cause) before low is lacks = absurd lacks
next_none old mid new names index found d number (faults.Stream stream cause) before low is lacks = absurd lacks
next_none old mid new names index found d number (faults.Image cause) before low is lacks = absurd lacks
next_none old mid new names index found d number faults.Flash before low is lacks = absurd lacks
next_none old mid new names index found d number faults.Source before low is lacks = subst (λ n. Rose n new.faults) before.faults lacks
next_none old mid new names index found d number faults.NoMemory before low is lacks = tt
next_none old mid new names index found d number faults.Turns before low is lacks = absurd lacks
next_none old mid new names index found d number (faults.Record which cause) before low is lacks = record {
  index = index;
  numbered = lacks.0 ∙ is ∙ ap (λ n. number_among n (index + 1)) (sym (named_as_many names));
  within = omega (arith, named_as_many names, low);
  front = texts_in found;
  read = subst (λ (ns : List (List ℕ)). AllZip (ReadsRecord old) ns (texts_in found)) (sym (take-map spelling index names)) before.read;
  none = subst (λ name. ReadsNoRecord old name cause) (sym (get_map spelling names index d [] low)) (none_back old mid (spelling (get_or names index d)) cause before.texts lacks.1);
}
next_none old mid new names index found d number (faults.Audit which at why) before low is lacks = absurd lacks
next_none old mid new names index found d number (faults.Output which line) before low is lacks = absurd lacks
next_none old mid new names index found d number (faults.Lost which at) before low is lacks = absurd lacks
