-- What the reader answers, from what it says of the document.
use Rattle.std.proofs.Common.{◌≡◌, ◌≢◌, List, ℕ, Some, None, Result, Ok, Err, IfOk, IfErr, sym, ap, subst, ◌∙◌, inl, inr}
use Rattle.fdp_base.specs.declared.config.DriveConfig.{DriveConfig}
use Rattle.fdp_base.specs.Config.{IsValidConfig}
use Rattle.toml.specs.Data.{Members}
use Rattle.fdp_config.proofs.Spelled.{spelled}
use Rattle.fdp_config.proofs.Relation.{fault_found, fault_told}
use Rattle.fdp_config.proofs.Told.{no_fault, ranged, reads_as}
use Rattle.fdp_config.specs.Document.{IsDocument}
use Rattle.fdp_config.specs.Faults.{Gives, IsFaultIn, IsFaultOf, IsInByteOrder}
use Rattle.fdp_config.specs.Reader.First.{fault_of}
use Rattle.fdp_config.specs.Reader.Config.{config_in}
use Rattle.fdp_config.specs.Spelling.{IsConfigOf, IsConfigText}
use Rattle.fdp_config.specs.declared.fault.ConfigFault.{ConfigFault}
use Rattle.fdp_config.specs.declared.fault.ConfigFault.TheVariants.{NoMemory}

-- a text reads as one document
one_document : (text : List ℕ) (doc other : Members) → IsDocument text doc → IsDocument text other → other ≡ doc
one_document text doc other is also = let same : Some other ≡ Some doc = sym also.1 ∙ is.1 in cc

pub config_answer : (r : Result DriveConfig ConfigFault) (text : List ℕ) (doc : Members) → IsDocument text doc
    → IfOk r (λ c. (c ≡ config_in doc) × (fault_of doc ≡ None)) → IfOk r (IsConfigText text)
config_answer (Ok c) text doc is read = (doc, is, rw read.0 (spelled doc read.1))
config_answer (Err fault) text doc is read = read

pub read_answer : (r : Result DriveConfig ConfigFault) (text : List ℕ) (doc : Members) → IsDocument text doc
    → IfOk r (λ c. (c ≡ config_in doc) × (fault_of doc ≡ None)) → IfErr r (λ fault. fault ≢ NoMemory → fault_of doc ≡ Some fault)
    → (c : DriveConfig) → IsConfigText text c → Gives r (Ok c)
read_answer (Ok x) text doc is read told c text_is =
    let config : IsConfigOf doc c = subst (λ (d : Members). IsConfigOf d c) (one_document text doc text_is.0 is text_is.1) text_is.2 in
    ap Ok (sym (read.0 ∙ reads_as doc c (ranged doc c config)))
read_answer (Err fault) text doc is read told c text_is =
    let config : IsConfigOf doc c = subst (λ (d : Members). IsConfigOf d c) (one_document text doc text_is.0 is text_is.1) text_is.2 in
    let none = no_fault doc c config in
    λ not_memory. let some = told not_memory in absurd (cc)

pub fault_answer : (r : Result DriveConfig ConfigFault) (text : List ℕ) (doc : Members) → IsDocument text doc
    → IfErr r (λ fault. fault ≢ NoMemory → fault_of doc ≡ Some fault) → IfErr r (λ fault. fault ≢ NoMemory → IsFaultOf text fault)
fault_answer (Ok c) text doc is told = told
fault_answer (Err fault) text doc is told = λ not_memory. inr (doc, is, fault_found doc fault (told not_memory))

pub told_answer : (r : Result DriveConfig ConfigFault) (text : List ℕ) (doc : Members) → IsDocument text doc
    → IfOk r (λ c. (c ≡ config_in doc) × (fault_of doc ≡ None)) → IfErr r (λ fault. fault ≢ NoMemory → fault_of doc ≡ Some fault)
    → (fault : ConfigFault) → IsFaultOf text fault → Gives r (Err fault)
told_answer (Ok x) text doc is read told fault (inl not_toml) = absurd (not_toml.1 doc is)
told_answer (Ok x) text doc is read told fault (inr other) =
    let here : IsFaultIn doc fault = subst (λ (d : Members). IsFaultIn d fault) (one_document text doc other.0 is other.1) other.2 in
    let first = fault_told doc fault here in
    let none = read.1 in absurd (cc)
told_answer (Err x) text doc is read told fault (inl not_toml) = absurd (not_toml.1 doc is)
told_answer (Err x) text doc is read told fault (inr other) =
    let here : IsFaultIn doc fault = subst (λ (d : Members). IsFaultIn d fault) (one_document text doc other.0 is other.1) other.2 in
    let first = fault_told doc fault here in
    λ not_memory. let some = told not_memory in let same : fault ≡ x = cc in ap Err same

pub valid_answer : (r : Result DriveConfig ConfigFault) (text : List ℕ) → IfOk r (IsConfigText text) → IfOk r IsValidConfig
valid_answer (Ok c) text is = is.2.valid
valid_answer (Err fault) text is = is

pub first_answer : (r : Result DriveConfig ConfigFault) (text : List ℕ) (doc : Members) → IsDocument text doc → IfErr r (IsInByteOrder doc)
    → IfErr r (λ fault. (other : Members) → IsDocument text other → IsInByteOrder other fault)
first_answer (Ok c) text doc is first = first
first_answer (Err fault) text doc is first = λ other also. subst (λ (d : Members). IsInByteOrder d fault) (sym (one_document text doc other is also)) first
