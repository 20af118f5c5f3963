-- How the words behind `audit` are read by `clap`.
use Rattle.std.proofs.Common.{◌≡◌, ◌⊎◌, inl, inr, ◌||◌, ◌++◌, ◌<◌, ◌≤◌, Bool, true, false, suc, List, [], ◌∷◌, length, Some, None, refl, ap, ap₂, subst, ◌∙◌, arith}
use Rattle.std.specs.Prelude.{codes, nat_le, if◌then◌else◌, fold}
use Rattle.std.specs.List.{list_any}
use Rattle.std.proofs.lemmas.Bool.Decides.{nat_tests}
use Rattle.std.proofs.lemmas.List.{length-map}
use Rattle.clap.specs.Words.{App, Row, Shape, Text, all_of, first_of, found_of, is_simple_and_free, rows_of, with_rule}
use Rattle.clap.specs.Simple.{built}
use Rattle.clap.specs.Walk.{Walk, finished, nothing_held, walk, walk_from, walked}
use Rattle.clap.specs.Kinds.{or_else, range_kinds}
use Rattle.clap.specs.Faults.{walk_fault}
use Rattle.clap.specs.declared.parser.matches.ArgMatches.{ArgMatches}
use Rattle.clap.specs.declared.error.kind.ErrorKind.TheVariants as kinds
use Rattle.clap.proofs.WalkLemmas.{first_value-rows, raw_values-rows}
use Rattle.clap.proofs.OnLiterals.{clap_on_literals}
use Rattle.fdp_finding.specs.declared.asked.AuditAsked.{AuditAsked}
use Rattle.fdp_finding.specs.declared.asked.TheConstants.{MOST_RECORDS}
use Rattle.fdp_finding.specs.Asked.{AuditNames, audit_of, begins_with_dash}
use Rattle.fdp_finding.specs.CommandLine.{AreAuditNames, AreFew, as_audit, bare, one, one_to}
use Rattle.fdp_finding.proofs.CommandLines.{Plain, Reads, Refuses, between, ends, fails_as, fails_at_end, few_pass, first_plain, goes_on, many_fail, pending, rest_plain, row, several_pass, texts_pass, walk_several}

abbrev pub audit_app : App
audit_app = with_rule (with_rule bare (one (codes "CONFIG"))) (one_to MOST_RECORDS (codes "RECORD"))

pub audit_simple : is_simple_and_free audit_app ≡ true
unfolding clap_on_literals
audit_simple = refl

abbrev shape : Shape
shape = (built audit_app).top

-- what is found of the names
abbrev pub audit_rows : AuditNames → List Row
audit_rows names = row (codes "CONFIG") (names.config ∷ []) ∷ row (codes "RECORD") names.texts ∷ []

abbrev pub DecidesAudit : List Text → Type 0
DecidesAudit words = Reads audit_app audit_rows (audit_of words) words ⊎ Refuses audit_app (audit_of words) words

no_word : DecidesAudit []
unfolding clap_on_literals
no_word = inr (record { none = refl; kind = kinds.MissingRequiredArgument; more = []; fails = refl })

walked_config : (c : Text) → begins_with_dash c ≡ false → walked shape.rules [] (walk_from nothing_held) c ≡ between (pending [] (codes "CONFIG") (c ∷ [])) false 2
walked_config c plain = goes_on shape.rules false 1 c nothing_held plain

one_word : (c : Text) → begins_with_dash c ≡ false → DecidesAudit (c ∷ [])
unfolding clap_on_literals
one_word c first = inr (record {
  none = refl;
  kind = kinds.MissingRequiredArgument;
  more = [];
  fails = fails_at_end audit_app (c ∷ []) (between (pending [] (codes "CONFIG") (c ∷ [])) false 2) refl refl (walked_config c first)
      (ap (λ k. or_else k []) (fails_as shape false 1 c nothing_held first));
})

-- ---- the records

abbrev configured : Text → List Row
configured c = row (codes "CONFIG") (c ∷ []) ∷ []

abbrev recorded : Text → List Text → Walk
recorded c ts = between (pending (configured c) (codes "RECORD") ts) true 2

walked_record : (c t : Text) → begins_with_dash t ≡ false → walked shape.rules [] (between (pending [] (codes "CONFIG") (c ∷ [])) false 2) t ≡ recorded c (t ∷ [])
walked_record c t plain = goes_on shape.rules false 2 t (pending [] (codes "CONFIG") (c ∷ [])) plain

walked_more : (c t : Text) (ts : List Text) → begins_with_dash t ≡ false → walked shape.rules [] (recorded c ts) t ≡ recorded c (ts ++ t ∷ [])
walked_more c t ts plain = goes_on shape.rules true 2 t (pending (configured c) (codes "RECORD") ts) plain

walk_all : (c t : Text) (ts : List Text) → begins_with_dash c ≡ false → begins_with_dash t ≡ false → Plain ts → walk shape.rules [] nothing_held (c ∷ t ∷ ts) ≡ recorded c (t ∷ ts)
walk_all c t ts first second rest =
    ap (λ (w : Walk). fold (walked shape.rules []) (walked shape.rules [] w t) ts) (walked_config c first) ∙ ap (λ (w : Walk). fold (walked shape.rules []) w ts) (walked_record c t second)
    ∙ walk_several shape (recorded c) (walked_more c) (t ∷ []) ts rest

all_pass : (c t : Text) (ts : List Text) → begins_with_dash c ≡ false → begins_with_dash t ≡ false → Plain ts → walk_fault shape [] (walk_from nothing_held) (c ∷ t ∷ ts) ≡ []
unfolding walk_fault
all_pass c t ts first second rest =
    ap₂ or_else (fails_as shape false 1 c nothing_held first) (ap (λ (w : Walk). walk_fault shape [] w (t ∷ ts)) (walked_config c first))
    ∙ ap₂ or_else (fails_as shape false 2 t (pending [] (codes "CONFIG") (c ∷ [])) second) (ap (λ (w : Walk). walk_fault shape [] w ts) (walked_record c t second))
    ∙ several_pass shape (recorded c) (walked_more c) (λ t ts plain. fails_as shape true 2 t (pending (configured c) (codes "RECORD") ts) plain) (t ∷ []) ts rest

-- behind the walk only the number of records can be wrong
ends_by_range : (c t : Text) (ts : List Text) → ends shape (pending (configured c) (codes "RECORD") (t ∷ ts)) ≡ or_else (or_else (range_kinds 1 16 (suc (length ts))) []) []
unfolding clap_on_literals
ends_by_range c t ts = ap (λ k. or_else (or_else (range_kinds 1 16 (suc (length ts))) k) []) (texts_pass ts)

abbrev with_record : Text → Text → List Text → AuditNames
with_record c t ts = record { config = c; texts = t ∷ ts }

rows_at_end : (c t : Text) (ts : List Text) → finished shape.rules (pending (configured c) (codes "RECORD") (t ∷ ts)) ≡ audit_rows (with_record c t ts)
rows_at_end c t ts = refl

records : (c t : Text) (ts : List Text) → begins_with_dash c ≡ false → begins_with_dash t ≡ false → Plain ts → (few : Bool) → nat_le (suc (length ts)) 16 ≡ few → DecidesAudit (c ∷ t ∷ ts)
records c t ts first second rest few is =
    let ended = fails_at_end audit_app (c ∷ t ∷ ts) (recorded c (t ∷ ts)) refl refl (walk_all c t ts first second rest) (all_pass c t ts first second rest)
    ∙ ends_by_range c t ts in
    elim few as (λ b. nat_le (suc (length ts)) 16 ≡ b → DecidesAudit (c ∷ t ∷ ts)) [
      | true ↦ λ low. inl (record {
        value = with_record c t ts;
        is = ap (λ (b : Bool). if b then Some (with_record c t ts) else None) low;
        passes = ended ∙ ap (λ k. or_else (or_else k []) []) (few_pass (length ts) low);
        rows = ap (λ (w : Walk). finished shape.rules w.held) (walk_all c t ts first second rest) ∙ rows_at_end c t ts;
      })
      | false ↦ λ high. inr (record {
        none = ap (λ (b : Bool). if b then Some (with_record c t ts) else None) high;
        kind = kinds.TooManyValues;
        more = [];
        fails = ended ∙ ap (λ k. or_else (or_else k []) []) (many_fail (length ts) high);
      })
    ] is

-- clap reads the names of an audit exactly where the words are such names
pub decides_audit : (words : List Text) → Plain words → DecidesAudit words
decides_audit [] none = no_word
decides_audit (c ∷ []) none = one_word c (first_plain (begins_with_dash c) false none)
decides_audit (c ∷ t ∷ ts) none =
    let second = rest_plain (begins_with_dash c) (begins_with_dash t || list_any begins_with_dash ts) none in
    records c t ts (first_plain (begins_with_dash c) (begins_with_dash t || list_any begins_with_dash ts) none) (first_plain (begins_with_dash t) (list_any begins_with_dash ts) second)
    (rest_plain (begins_with_dash t) (list_any begins_with_dash ts) second) (nat_le (suc (length ts)) 16) refl

-- the rows of the names, as the getters give them
pub are_audit_names : (m : ArgMatches) (names : AuditNames) → rows_of (found_of m) ≡ audit_rows names → AreAuditNames m names
are_audit_names m names is = record {
  config = first_value-rows (found_of m) (codes "CONFIG") ∙ ap (first_of (codes "CONFIG")) is;
  texts = raw_values-rows (found_of m) (codes "RECORD") ∙ ap (all_of (codes "RECORD")) is;
}

-- they are one to sixteen
few_named : (words : List Text) (names : AuditNames) → audit_of words ≡ Some names → (0 < length names.texts) × (length names.texts ≤ MOST_RECORDS)
few_named [] names is = absurd (cc)
few_named (c ∷ []) names is = absurd (cc)
few_named (c ∷ t ∷ ts) names is = within (nat_le (suc (length ts)) 16) refl is where
  within : (few : Bool) → nat_le (suc (length ts)) 16 ≡ few → (if few then Some (with_record c t ts) else None) ≡ Some names → (0 < length names.texts) × (length names.texts ≤ MOST_RECORDS)
  within true low same =
      let own : with_record c t ts ≡ names = cc in
      let few : suc (length ts) ≤ 16 = grind (arith, nat_tests, low) in
      subst (λ (n : AuditNames). (0 < length n.texts) × (length n.texts ≤ MOST_RECORDS)) own (omega arith, few)
  within false high same = absurd (cc)

pub are_few : (words : List Text) (audit : AuditAsked) → audit_of words ≡ Some (as_audit audit) → AreFew audit
are_few words audit is =
    let few = few_named words (as_audit audit) is in
    let same = length-map audit.texts.items (λ name. name.now) in
    record { some = omega (arith, few.0, same); few = omega (arith, few.1, same) }
