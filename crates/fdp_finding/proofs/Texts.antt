-- Traces and streams that are read one after another.
use Rattle.std.proofs.Common.{◌≡◌, ℕ, ◌+◌, ◌<◌, ◌≤◌, IsTrue, List, [], ◌∷◌, ◌++◌, length, take, map, get_or, refl, sym, ap, subst, ◌∙◌, arith, zero, suc, false, is_err, is_ok, Result, Ok, Err, inl}
use Rattle.std.specs.Prelude.{String, MatchResult, Option, Some, option_and_then, slice_index_or, if◌then◌else◌}
use Rattle.std.specs.declared.alloc.Global.{Global}
use Rattle.std.specs.Global.{Vec}
use Rattle.std.specs.List.{All, AllZip}
use Rattle.std.specs.Borrow.{Bor}
use Rattle.std.proofs.lemmas.List.{length-append, map_more, take-map, take_all}
use Rattle.std.proofs.lemmas.List.Elements.{All-push}
use Rattle.fdp_base.specs.declared.command.Command.{Command}
use Rattle.fdp_base.specs.declared.config.DriveConfig.{DriveConfig}
use Rattle.fdp_base.specs.Config.{IsValidConfig}
use Rattle.fdp_base.specs.Counts.{Rose}
use Rattle.fdp_io.specs.Bench.{BenchState, SameFlashes, SameTexts}
use Rattle.fdp_finding.specs.declared.asked.Form.{Form}
use Rattle.fdp_finding.specs.declared.asked.Texts.{Texts}
use Rattle.fdp_finding.specs.declared.asked.Texts.TheVariants as texts
use Rattle.fdp_finding.specs.declared.fault.Fault.{Fault}
use Rattle.fdp_finding.specs.declared.fault.Fault.TheVariants as faults
use Rattle.fdp_finding.specs.declared.no_stream.NoStream.{NoStream}
use Rattle.fdp_finding.specs.declared.no_trace.NoTrace.{NoTrace}
use Rattle.fdp_finding.specs.declared.reading.Task.{Task}
use Rattle.fdp_finding.specs.declared.reading.Task.TheVariants as tasks
use Rattle.fdp_finding.specs.Asked.{Asked, AsksForTexts, Names, asked_of, texts_of}
use Rattle.fdp_finding.specs.Configured.{ReadsConfig}
use Rattle.fdp_finding.specs.Streamed.{IsNoStream, IsStreamText, ReadsNoStream, ReadsStream}
use Rattle.fdp_finding.specs.Traced.{IsNoTrace, IsServable, IsTraceText, ReadsNoTrace, ReadsTrace}
use Rattle.fdp_finding.specs.Task.{ServesIf, sought_of}
use Rattle.fdp_finding.specs.Wanted.{CommandsLack, ConfigLacks, Finds, FindsTexts, HasTexts, IsFirstLacking, Lacks, ReadsCommands, TextsLack, TracesLack, commands_of, session}

abbrev pub Name : Type 0
Name = Bor (List ℕ)

abbrev pub spelling : Name → List ℕ
spelling name = name.now

-- so many of these names are those of traces or streams, which were read
pub record AreRead (kind : Texts) (c : DriveConfig) (old new : BenchState) (names : List Name) (index : ℕ) (traces : List (Vec Command)) : Type 0 where
  pub texts : SameTexts old new
  pub flashes : SameFlashes old new
  pub faults : new.faults ≡ old.faults
  pub count : length traces ≡ index
  pub read : AllZip (ReadsCommands kind c.block old) (map spelling (take index names)) (commands_of traces)
  pub servable : All (λ trace. IsServable c trace.items) traces

-- one more pair
pub zip_more : {A B : Type 0} (R : A → B → Type 0) (xs : List A) (ys : List B) (x : A) (y : B) → AllZip R xs ys → R x y → AllZip R (xs ++ x ∷ []) (ys ++ y ∷ [])
zip_more R [] [] x y all one = (one, tt)
zip_more R [] (b ∷ ys) x y all one = absurd all
zip_more R (a ∷ xs) [] x y all one = absurd all
zip_more R (a ∷ xs) (b ∷ ys) x y all one = (all.0, zip_more R xs ys x y all.1 one)

pub map_push : {A B : Type 0} (f : A → B) (xs : List A) (x : A) → map f (xs ++ x ∷ []) ≡ map f xs ++ f x ∷ []
map_push f [] x = refl
map_push f (y ∷ xs) x = ap (λ ys. f y ∷ ys) (map_push f xs x)

pub get_map : {A B : Type 0} (f : A → B) (xs : List A) (i : ℕ) (d : A) (e : B) → i < length xs → get_or (map f xs) i e ≡ f (get_or xs i d)
get_map f [] i d e low = absurd (omega arith)
get_map f (x ∷ xs) zero d e low = refl
get_map f (x ∷ xs) (suc i) d e low = get_map f xs i d e (omega arith)

pub named_as_many : (names : List Name) → length (map spelling names) ≡ length names
named_as_many [] = refl
named_as_many (name ∷ names) = ap suc (named_as_many names)

-- what is told of a text is told of it as it was
pub told_back : (Says : Option (List ℕ) → Type 0) (old mid : BenchState) (name : List ℕ) → SameTexts old mid → (IsTrue mid.told → Says (mid.text name)) → IsTrue old.told → Says (old.text name)
told_back Says old mid name same says told = subst (λ (text : List ℕ → _). Says (text name)) same.texts (says (subst IsTrue (sym same.told_still) told))

reads_back : (kind : Texts) (block : ℕ) (old mid : BenchState) (name : List ℕ) (commands : List Command) → SameTexts old mid → ReadsCommands kind block mid name commands → ReadsCommands kind block old name commands
reads_back texts.Traces block old mid name commands same reads = told_back (λ found. IsTraceText found commands) old mid name same reads
reads_back texts.Streams block old mid name commands same reads = told_back (λ found. IsStreamText block found commands) old mid name same reads

trace_back : (old mid : BenchState) (name : List ℕ) (cause : NoTrace) → SameTexts old mid → ReadsNoTrace mid name cause → ReadsNoTrace old name cause
trace_back old mid name cause same reads = told_back (λ found. IsNoTrace found cause) old mid name same reads

stream_back : (block : ℕ) (old mid : BenchState) (name : List ℕ) (cause : NoStream) → SameTexts old mid → ReadsNoStream block mid name cause → ReadsNoStream block old name cause
stream_back block old mid name cause same reads = told_back (λ found. IsNoStream block found cause) old mid name same reads

pub same_texts : (old mid new : BenchState) → SameTexts old mid → SameTexts mid new → SameTexts old new
same_texts old mid new first second = record { told_still = second.told_still ∙ first.told_still; texts = second.texts ∙ first.texts }

pub same_flashes : (old mid new : BenchState) → SameFlashes old mid → SameFlashes mid new → SameFlashes old new
same_flashes old mid new first second = record { images = second.images ∙ first.images; out = second.out ∙ first.out }

-- none is read yet
pub none_read : (kind : Texts) (c : DriveConfig) (s : BenchState) (names : List Name) → AreRead kind c s s names 0 []
none_read kind c s names = record {
  texts = record { told_still = refl; texts = refl };
  flashes = record { images = refl; out = refl };
  faults = refl;
  count = refl;
  read = tt;
  servable = λ k x low. absurd (omega arith);
}

-- the next one is read
pub one_read : (kind : Texts) (c : DriveConfig) (old mid new : BenchState) (names : List Name) (index : ℕ) (traces : List (Vec Command)) (d : Name) (trace : Vec Command) →
    AreRead kind c old mid names index traces → index < length names → SameTexts mid new → SameFlashes mid new → new.faults ≡ mid.faults →
    ReadsCommands kind c.block mid (spelling (get_or names index d)) trace.items → IsServable c trace.items → AreRead kind c old new names (index + 1) (traces ++ trace ∷ [])
one_read kind c old mid new names index traces d trace before low texts flashes faults reads servable = record {
  texts = same_texts old mid new before.texts texts;
  flashes = same_flashes old mid new before.flashes flashes;
  faults = faults ∙ before.faults;
  count = length-append traces (trace ∷ []) ∙ ap (λ n. n + 1) before.count;
  read =
      let name = spelling (get_or names index d) in
      let Reads = ReadsCommands kind c.block old in
      let Read = λ (names : List (List ℕ)) (traces : List (List Command)). AllZip Reads names traces in
      let pairs = zip_more Reads (map spelling (take index names)) (commands_of traces) name trace.items before.read (reads_back kind c.block old mid name trace.items before.texts reads) in
      subst (λ ns. Read ns (commands_of (traces ++ trace ∷ []))) (sym (map_more spelling names index d low))
      (subst (Read (map spelling (take index names) ++ name ∷ [])) (sym (map_push (λ (t : Vec Command). t.items) traces trace)) pairs);
  servable = All-push (λ (t : Vec Command). IsServable c t.items) traces trace before.servable servable;
}

-- all are read
pub all_read : (kind : Texts) (c : DriveConfig) (old new : BenchState) (names : List Name) (index : ℕ) (traces : List (Vec Command)) → AreRead kind c old new names index traces → length names ≤ index →
    AllZip (ReadsCommands kind c.block old) (map spelling names) (commands_of traces)
all_read kind c old new names index traces before high =
    subst (λ (ns : List Name). AllZip (ReadsCommands kind c.block old) (map spelling ns) (commands_of traces)) (take_all index names high) before.read

-- the next one is none
first_none : (Reads : List ℕ → List Command → Type 0) (ReadsNo : List ℕ → Type 0) (names : List Name) (index queues number : ℕ) (traces : List (Vec Command)) (d : Name) → index < length names → length names ≤ queues →
    number ≡ index + 1 → AllZip Reads (map spelling (take index names)) (commands_of traces) → ReadsNo (spelling (get_or names index d)) → IsFirstLacking Reads ReadsNo queues (map spelling names) number
first_none Reads ReadsNo names index queues number traces d low few is read none = record {
  queued = omega (arith, named_as_many names, few);
  index = index;
  number = is;
  within = omega (arith, named_as_many names, low);
  front = commands_of traces;
  read = subst (λ (ns : List (List ℕ)). AllZip Reads ns (commands_of traces)) (sym (take-map spelling index names)) read;
  none = subst ReadsNo (sym (get_map spelling names index d [] low)) none;
}

pub none_next : (kind : Texts) (c : DriveConfig) (old mid new : BenchState) (names : List Name) (index : ℕ) (traces : List (Vec Command)) (d : Name) (fault : Fault) →
    AreRead kind c old mid names index traces → index < length names → length names ≤ c.queues →
    CommandsLack kind c.block mid new (index + 1) (spelling (get_or names index d)) fault → TracesLack kind c old new (map spelling names) fault
none_next kind c old mid new names index traces d faults.Usage before low few lacks = absurd lacks
none_next kind c old mid new names index traces d (faults.Config cause) before low few lacks = absurd lacks
none_next kind c old mid new names index traces d (faults.NoQueue trace) before low few lacks = absurd lacks
none_next texts.Traces c old mid new names index traces d (faults.Trace trace cause) before low few lacks =
    (refl, first_none (ReadsTrace old) (λ name. ReadsNoTrace old name cause) names index c.queues trace traces d low few lacks.1 before.read (trace_back old mid (spelling (get_or names index d)) cause before.texts lacks.2))
none_next texts.Streams c old mid new names index traces d (faults.Trace trace cause) before low few lacks = let no = lacks.0 in absurd (cc)
none_next texts.Traces c old mid new names index traces d (faults.Stream stream cause) before low few lacks = let no = lacks.0 in absurd (cc)
none_next texts.Streams c old mid new names index traces d (faults.Stream stream cause) before low few lacks =
    (refl, first_none (ReadsStream c.block old) (λ name. ReadsNoStream c.block old name cause) names index c.queues stream traces d low few lacks.1 before.read (stream_back c.block old mid (spelling (get_or names index d)) cause before.texts lacks.2))
none_next kind c old mid new names index traces d (faults.Image cause) before low few lacks = absurd lacks
none_next kind c old mid new names index traces d faults.Flash before low few lacks = absurd lacks
none_next kind c old mid new names index traces d faults.Source before low few lacks = subst (λ n. Rose n new.faults) before.faults lacks
none_next kind c old mid new names index traces d faults.NoMemory before low few lacks = tt
none_next kind c old mid new names index traces d faults.Turns before low few lacks = absurd lacks
none_next kind c old mid new names index traces d (faults.Record number cause) before low few lacks = absurd lacks
none_next kind c old mid new names index traces d (faults.Audit number at why) before low few lacks = absurd lacks
none_next kind c old mid new names index traces d (faults.Output number line) before low few lacks = absurd lacks
none_next kind c old mid new names index traces d (faults.Lost number at) before low few lacks = absurd lacks

-- ---- the whole search

pub zip_weaker : {A B : Type 0} (R S : A → B → Type 0) (xs : List A) (ys : List B) → ((x : A) (y : B) → R x y → S x y) → AllZip R xs ys → AllZip S xs ys
zip_weaker R S [] [] weaker all = tt
zip_weaker R S [] (y ∷ ys) weaker all = absurd all
zip_weaker R S (x ∷ xs) [] weaker all = absurd all
zip_weaker R S (x ∷ xs) (y ∷ ys) weaker all = (weaker x y all.0, zip_weaker R S xs ys weaker all.1)

-- what is first lacking is so of the texts as they were
first_back : (Reads Was : List ℕ → List Command → Type 0) (ReadsNo WasNo : List ℕ → Type 0) (queues : ℕ) (names : List (List ℕ)) (number : ℕ) → ((name : List ℕ) (commands : List Command) → Reads name commands → Was name commands) →
    ((name : List ℕ) → ReadsNo name → WasNo name) → IsFirstLacking Reads ReadsNo queues names number → IsFirstLacking Was WasNo queues names number
first_back Reads Was ReadsNo WasNo queues names number reads none lacks = record {
  queued = lacks.queued;
  index = lacks.index;
  number = lacks.number;
  within = lacks.within;
  front = lacks.front;
  read = zip_weaker Reads Was (take lacks.index names) lacks.front reads lacks.read;
  none = none (slice_index_or names lacks.index []) lacks.none;
}

-- what the configuration lacks is what the texts lack
pub config_lacking : (kind : Texts) (old new : BenchState) (names : Names) (fault : Fault) → ConfigLacks old new names.config fault → TextsLack kind old new names fault
config_lacking kind old new names faults.Usage lacks = absurd lacks
config_lacking kind old new names (faults.Config cause) lacks = lacks
config_lacking kind old new names (faults.NoQueue trace) lacks = absurd lacks
config_lacking kind old new names (faults.Trace trace cause) lacks = absurd lacks
config_lacking kind old new names (faults.Stream stream cause) lacks = absurd lacks
config_lacking kind old new names (faults.Image cause) lacks = absurd lacks
config_lacking kind old new names faults.Flash lacks = absurd lacks
config_lacking kind old new names faults.Source lacks = lacks
config_lacking kind old new names faults.NoMemory lacks = tt
config_lacking kind old new names faults.Turns lacks = absurd lacks
config_lacking kind old new names (faults.Record number cause) lacks = absurd lacks
config_lacking kind old new names (faults.Audit number at why) lacks = absurd lacks
config_lacking kind old new names (faults.Output number line) lacks = absurd lacks
config_lacking kind old new names (faults.Lost number at) lacks = absurd lacks

-- what the traces lack is what the texts lack
pub traces_lacking : (kind : Texts) (old mid new : BenchState) (names : Names) (c : DriveConfig) (fault : Fault) → SameTexts old mid → mid.faults ≡ old.faults → ReadsConfig old names.config c →
    TracesLack kind c mid new names.traces fault → TextsLack kind old new names fault
traces_lacking kind old mid new names c faults.Usage same still read lacks = absurd lacks
traces_lacking kind old mid new names c (faults.Config cause) same still read lacks = absurd lacks
traces_lacking kind old mid new names c (faults.NoQueue trace) same still read lacks = record { config = c; configured = read; lacking = lacks }
traces_lacking kind old mid new names c (faults.Trace trace cause) same still read lacks = record {
  config = c;
  configured = read;
  lacking = (
    lacks.0,
    first_back (ReadsTrace mid) (ReadsTrace old) (λ name. ReadsNoTrace mid name cause) (λ name. ReadsNoTrace old name cause) c.queues names.traces trace
        (λ name commands. reads_back texts.Traces c.block old mid name commands same) (λ name. trace_back old mid name cause same) lacks.1,
  );
}
traces_lacking kind old mid new names c (faults.Stream stream cause) same still read lacks = record {
  config = c;
  configured = read;
  lacking = (
    lacks.0,
    first_back (ReadsStream c.block mid) (ReadsStream c.block old) (λ name. ReadsNoStream c.block mid name cause) (λ name. ReadsNoStream c.block old name cause) c.queues names.traces stream
        (λ name commands. reads_back texts.Streams c.block old mid name commands same) (λ name. stream_back c.block old mid name cause same) lacks.1,
  );
}
traces_lacking kind old mid new names c (faults.Image cause) same still read lacks = absurd lacks
traces_lacking kind old mid new names c faults.Flash same still read lacks = absurd lacks
traces_lacking kind old mid new names c faults.Source same still read lacks = subst (λ n. Rose n new.faults) still lacks
traces_lacking kind old mid new names c faults.NoMemory same still read lacks = tt
traces_lacking kind old mid new names c faults.Turns same still read lacks = absurd lacks
traces_lacking kind old mid new names c (faults.Record number cause) same still read lacks = absurd lacks
traces_lacking kind old mid new names c (faults.Audit number at why) same still read lacks = absurd lacks
traces_lacking kind old mid new names c (faults.Output number line) same still read lacks = absurd lacks
traces_lacking kind old mid new names c (faults.Lost number at) same still read lacks = absurd lacks

-- the texts of the names were found
pub texts_found : (kind : Texts) (old mid : BenchState) (names : List Name) (name image : List ℕ) (c : DriveConfig) (traces : List (List Command)) → SameTexts old mid → ReadsConfig old name c → IsValidConfig c →
    length names ≤ c.queues → AllZip (ReadsCommands kind c.block mid) (map spelling names) traces → HasTexts kind old (record { config = name; image = image; traces = map spelling names }) c image traces
texts_found kind old mid names name image c traces same read valid few all = record {
  config = read;
  valid = valid;
  image_is = refl;
  queued = omega (arith, named_as_many names, few);
  commands = zip_weaker (ReadsCommands kind c.block mid) (ReadsCommands kind c.block old) (map spelling names) traces (λ name commands. reads_back kind c.block old mid name commands same) all;
}

-- what the texts lack is what the run lacks, where the words ask for them
run_lacks : (kind : Texts) (old new : BenchState) (words : List (String Global)) (names : Names) (fault : Fault) → AsksForTexts words kind names → TextsLack kind old new names fault → Lacks old new words fault
run_lacks kind old new words names faults.Usage asked lacks = absurd lacks
run_lacks kind old new words names (faults.Config cause) asked lacks = inl (record { kind = kind; names = names; asked = asked; lacks = lacks })
run_lacks kind old new words names (faults.NoQueue trace) asked lacks = record { kind = kind; names = names; asked = asked; lacks = lacks }
run_lacks kind old new words names (faults.Trace trace cause) asked lacks = record { kind = kind; names = names; asked = asked; lacks = lacks }
run_lacks kind old new words names (faults.Stream stream cause) asked lacks = record { kind = kind; names = names; asked = asked; lacks = lacks }
run_lacks kind old new words names (faults.Image cause) asked lacks = absurd lacks
run_lacks kind old new words names faults.Flash asked lacks = absurd lacks
run_lacks kind old new words names faults.Source asked lacks = inl (record { kind = kind; names = names; asked = asked; lacks = lacks })
run_lacks kind old new words names faults.NoMemory asked lacks = tt
run_lacks kind old new words names faults.Turns asked lacks = absurd lacks
run_lacks kind old new words names (faults.Record number cause) asked lacks = absurd lacks
run_lacks kind old new words names (faults.Audit number at why) asked lacks = absurd lacks
run_lacks kind old new words names (faults.Output number line) asked lacks = absurd lacks
run_lacks kind old new words names (faults.Lost number at) asked lacks = absurd lacks

-- what was found is what the words ask for, in a form that asks so for such texts
pub form_answers : (kind : Texts) (form : Form) (asks : Names → Asked) (old new : BenchState) (words : List (String Global)) (names : Names) (r : Result Task Fault)
    → ((c : DriveConfig) (image : List ℕ) (traces : List (List Command)) → FindsTexts kind old words asks c image traces → Finds old words (session form c image traces))
    → texts_of (asks names) ≡ Some (kind, names) → asked_of words ≡ Some (asks names)
    → MatchResult r (ServesIf (λ found. (found.form ≡ form) × HasTexts kind old names found.config found.image.now (commands_of found.traces.items))) (TextsLack kind old new names)
    → MatchResult r (λ task. Finds old words (sought_of task)) (Lacks old new words)
form_answers kind form asks old new words names (Ok (tasks.Serve found)) finds texts asked h =
    subst (λ (form : Form). Finds old words (session form found.config found.image.now (commands_of found.traces.items))) (sym h.0)
    (finds found.config found.image.now (commands_of found.traces.items) (record { names = names; asked = asked; found = h.1 }))
form_answers kind form asks old new words names (Ok (tasks.Audit found)) finds texts asked h = absurd h
form_answers kind form asks old new words names (Err fault) finds texts asked h = run_lacks kind old new words names fault (ap (option_and_then texts_of) asked ∙ texts) h

-- what was pushed stands at the end
pub pushed_of : {X T E : Type 0} (r : Result T E) (new more less : List X) → is_err r ≡ false → new ≡ (if is_ok r then more else less) → new ≡ more
pushed_of (Ok x) new more less done is = is
pushed_of (Err x) new more less done is = absurd (cc)
