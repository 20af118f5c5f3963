-- What is printed of a run on a new image is audited yes.
use Rattle.std.proofs.Common.{◌≡◌, ◌∙◌, ℕ, ◌-◌, ◌<◌, ◌≤◌, All, Bool, true, false, IsTrue, List, [], ◌∷◌, Option, Some, None, length, refl, sym, ap, subst, arith, ⊎_elim}
use Rattle.std.specs.Prelude.{String, ⊤, IfSome, if◌then◌else◌, bytes_eq, codes, map, nat_le, option_map, string_bytes}
use Rattle.std.specs.List.{AllByRecursion, AllZip, list_any}
use Rattle.std.specs.declared.alloc.Global.{Global}
use Rattle.std.proofs.lemmas.Bool.{cases_lt}
use Rattle.std.proofs.lemmas.List.{get_or_past}
use Rattle.std.proofs.lemmas.List.Elements.{All-from_recursion, All-nil}
use Rattle.std.proofs.lemmas.Slice.Zip.{AllZip-long}
use Rattle.fdp_audit.specs.Audit.{IsAudited, behind, first_run}
use Rattle.fdp_audit.proofs.Following.{first-count}
use Rattle.fdp_base.specs.declared.command.Command.{Command}
use Rattle.fdp_base.specs.declared.config.DriveConfig.{DriveConfig}
use Rattle.fdp_base.specs.declared.entry.Entry.{Entry}
use Rattle.fdp_base.specs.Geometry.{IsValidGeometry, all_pages}
use Rattle.fdp_base.specs.Placement.{geometry_of}
use Rattle.fdp_drive.specs.fdp_core.Loading.{IsLoaded, IsNewDrive, IsOpenedDrive}
use Rattle.fdp_drive.specs.fdp_core.Seen.{Seen}
use Rattle.fdp_drive.specs.fdp_crews.Crews.{trace_of}
use Rattle.fdp_drive.specs.Session.{StartsTheirs}
use Rattle.fdp_finding.specs.declared.asked.Form.TheVariants as forms
use Rattle.fdp_finding.specs.declared.asked.Texts.TheVariants as texts
use Rattle.fdp_finding.specs.Asked.{Asked, Names, asked_by, asked_of, audit_of, auditing, begins_with_dash, chosen_by, load_of, making, names_of, recording, recording_streams, running, streaming}
use Rattle.fdp_finding.specs.Wanted.{Finds, ReadsCommands, session}
use Rattle.fdp_finding.specs.declared.asked.TheConstants.{MOST_TRACES}
use Rattle.fdp_flash.specs.FlashState.{FlashState, IsWellFormed}
use Rattle.fdp_image.specs.Areas.{current_area}
use Rattle.fdp_io.specs.Bench.{BenchState, IsMadeFlash}
use Rattle.fdp_output.specs.HistoryText.{record_of}
use Rattle.fdp_prints.specs.Told.{IsSpelled}
use Rattle.fdp_rules.specs.History.{Found, fresh}
use Rattle.fdp_rules.specs.Legal.{IsLegal}
use Rattle.fdp_saving.proofs.Beginning.{blank_current}
use Rattle.fdp_told.specs.Spelled.{ServesSpelled}
use Rattle.fdp_told.proofs.Commands.{given-legal, traces-spelled}
use Rattle.fdp_told.proofs.Entries.{told-legal}
use Rattle.fdp_cli.specs.Session.{HasOwnMoments, IsRecordOf}

-- ---- the traces

-- the words ask for one trace at least
abbrev HasTrace : Asked → Type 0
HasTrace (running names) = 1 ≤ length names.traces
HasTrace (recording names) = 1 ≤ length names.traces
HasTrace (streaming names) = 1 ≤ length names.traces
HasTrace (recording_streams names) = 1 ≤ length names.traces
HasTrace (making load) = ⊤
HasTrace (auditing names) = ⊤

by-test : (P : Option Asked → Type 0) (b : Bool) (x y : Option Asked) → P x → P y → P (if b then x else y)
by-test P true x y p q = p
by-test P false x y p q = q

by-map : {X : Type 0} (P : Option Asked → Type 0) (make : X → Asked) (o : Option X) → P None → ((x : X) → o ≡ Some x → P (Some (make x))) → P (option_map make o)
by-map P make None none some = none
by-map P make (Some x) none some = some x refl

-- a trace stands among the names
traced : (words : List (List ℕ)) (names : Names) → names_of words ≡ Some names → 1 ≤ length names.traces
traced [] names is = absurd cc
traced (config ∷ []) names is = absurd cc
traced (config ∷ image ∷ []) names is = absurd cc
traced (config ∷ image ∷ trace ∷ more) names is = within (nat_le (length (trace ∷ more)) MOST_TRACES) is where
  within : (b : Bool) → (if b then Some (record { config = config; image = image; traces = trace ∷ more }) else None) ≡ Some names → 1 ≤ length names.traces
  within true same = let own : record { config = config; image = image; traces = trace ∷ more } ≡ names = cc in subst (λ (n : Names). 1 ≤ length n.traces) own (omega arith)
  within false same = absurd cc

has-trace : (words : List (List ℕ)) → IfSome (asked_by words) HasTrace
has-trace [] = tt
has-trace (word ∷ words) =
    let P : Option Asked → Type 0 = λ o. IfSome o HasTrace in
    let named : (make : Names → Asked) → ((names : Names) → 1 ≤ length names.traces → HasTrace (make names)) → P (option_map make (names_of words)) =
    λ make has. by-map P make (names_of words) tt (λ names is. has names (traced words names is)) in
    by-test P (list_any begins_with_dash (word ∷ words)) None (chosen_by word words) tt
    (by-test P (bytes_eq word (codes "run")) _ _ (named running (λ names one. one))
    (by-test P (bytes_eq word (codes "record")) _ _ (named recording (λ names one. one))
    (by-test P (bytes_eq word (codes "stream")) _ _ (named streaming (λ names one. one))
    (by-test P (bytes_eq word (codes "stream-record")) _ _ (named recording_streams (λ names one. one))
    (by-test P (bytes_eq word (codes "make")) _ _ (by-map P making (load_of words) tt (λ load is. tt))
    (by-test P (bytes_eq word (codes "audit")) _ _ (by-map P auditing (audit_of words) tt (λ names is. tt)) tt))))))

records-one : (words : List (String Global)) (names : Names) → asked_of words ≡ Some (recording names) → 1 ≤ length names.traces
records-one words names is = subst (λ (o : Option Asked). IfSome o HasTrace) is (has-trace (map string_bytes words))

-- lines say each command of each trace
all-spelled : (block : ℕ) (bench : BenchState) (names : List (List ℕ)) (traces : List (List Command)) → IsTrue bench.told → AllZip (ReadsCommands texts.Traces block bench) names traces → AllByRecursion (All IsSpelled) traces
all-spelled block bench [] [] told all = tt
all-spelled block bench [] (trace ∷ traces) told all = absurd all
all-spelled block bench (name ∷ names) [] told all = absurd all
all-spelled block bench (name ∷ names) (trace ∷ traces) told all = (let read = all.0 told in traces-spelled read.text trace read.says, all-spelled block bench names traces told all.1)

-- that of a queue, too
spelled-trace : (traces : List (List Command)) → AllByRecursion (All IsSpelled) traces → (queue : ℕ) → All IsSpelled (trace_of traces queue)
spelled-trace traces all queue = ⊎_elim
    (λ (low : queue - 1 < length traces). All-from_recursion (All IsSpelled) traces all (queue - 1) [] low)
    (λ (high : length traces ≤ queue - 1). subst (All IsSpelled) (sym (get_or_past traces (queue - 1) [] high)) (All-nil IsSpelled))
    (cases_lt (queue - 1) (length traces))

-- ---- the drive

-- a new flash has no area that is sealed
unsealed : (c : DriveConfig) (flash : FlashState) → IsWellFormed flash → IsMadeFlash (geometry_of c) flash → current_area (geometry_of c) flash.cells ≡ None
unsealed c flash formed made = blank_current (geometry_of c) flash.cells (subst IsValidGeometry made.geometry_is formed.geometry) (formed.size made.tells ∙ ap all_pages made.geometry_is) made.blank

-- so the drive on it is a fresh one
begins-fresh : {F : Type 0} (state : F → FlashState) (c : DriveConfig) (handed : F) (old : Seen F) → IsWellFormed (state handed) → IsMadeFlash (geometry_of c) (state handed) → IsLoaded state c handed old → old.book.found ≡ fresh c
begins-fresh state c handed old formed made loaded = ⊎_elim
    (λ (new : IsNewDrive c (state handed) old.book). new.found_is)
    (λ (opened : IsOpenedDrive c (state handed) old.book).
    let unspent = opened.unspent made.tells in
    let none = unsealed c (state handed) formed made in
    let some = unspent.current in
    absurd cc)
    loaded.began

-- ---- the record

pub audited-yes : (F : Type 0) (state : F → FlashState) (bench : BenchState) (words : List (String Global)) (c : DriveConfig) (image : List ℕ) (traces : List (List Command)) (handed given : F) (f : Found) (es : List Entry)
    → IsTrue bench.told → Finds bench words (session forms.Record c image traces) → IsWellFormed (state handed) → IsMadeFlash (geometry_of c) (state handed)
    → IsRecordOf state c traces handed given f es → HasOwnMoments (state given) es → IsAudited c (record_of c f (length traces) es ∷ []) (length es)
audited-yes F state bench words c image traces handed given f es told finds formed made recorded moments =
    let run = recorded.run in
    let found = finds.found in
    let one = records-one words finds.names finds.asked in
    let same-many : length traces ≡ length finds.names.traces = AllZip-long (ReadsCommands texts.Traces c.block bench) finds.names.traces traces found.commands in
    let config : run.new.book.config ≡ c = run.served.same.config_is ∙ run.loaded.config_is in
    let fresh-is : f ≡ fresh c = sym run.found_is ∙ run.served.same.found_is ∙ begins-fresh state c handed run.old formed made run.loaded in
    let tells : (state given).told ≡ true = ap (λ (x : F). (state x).told) (sym run.flash_is) ∙ run.held.told_is ∙ made.tells in
    let own : HasOwnMoments (state given) run.new.book.entries = subst (HasOwnMoments (state given)) (sym run.entries_are) moments in
    let legal : IsLegal true c (fresh c) es =
    subst (λ (b : Bool). IsLegal b c (fresh c) es) tells
    (subst (λ (d : DriveConfig). IsLegal (state given).told d (fresh c) es) config
    (subst (λ (g : Found). IsLegal (state given).told run.new.book.config g es) (run.found_is ∙ fresh-is)
    (subst (λ (xs : List Entry). IsLegal (state given).told run.new.book.config run.new.book.found xs) run.entries_are (run.legal own)))) in
    let starts : StartsTheirs c traces es =
    subst (λ (d : DriveConfig). StartsTheirs d traces es) config (subst (λ (xs : List Entry). StartsTheirs run.new.book.config traces xs) run.entries_are run.served.starts) in
    let spelled = all-spelled c.block bench finds.names.traces traces told found.commands in
    let serves : ServesSpelled c (trace_of traces) es = record { orders = run.orders; starts = starts; spelled = spelled-trace traces spelled } in
    let first = behind (first_run c) es in
    record {
      first = first;
      first_is = record {
        first_is = refl;
        record_is = record {
          traces = length traces;
          queues = (omega (arith, one, same-many), omega (arith, found.queued, same-many));
          told = told-legal c es found.valid legal run.ranged (given-legal true c (fresh c) (trace_of traces) es legal run.ranged serves);
          legal = legal;
          text_is = ap (λ (g : Found). record_of c g (length traces) es) fresh-is;
        };
      };
      last = first;
      follow = refl;
      count_is = first-count c es;
    }
