-- What one entry more makes of the table of last writes.
use Rattle.std.proofs.Common.{◌≡◌, ℕ, ◌+◌, Bool, true, false, cond, ◌&&◌, List, [], ◌∷◌, ◌++◌, Option, Some, None, OnOk, Result, Ok, Err, refl, sym, ◌∙◌, ap, ap₂, arith, Bor, bytes_eq, is_eq}
use Rattle.std.specs.Prelude.{◌==◌, option_map, option_and_then}
use Rattle.std.specs.Option.{option_or}
use Rattle.std.specs.BTreeMap.{BTreeMap, Updates, get, is_at}
use Rattle.std.specs.Map.{lookup}
use Rattle.std.specs.Cmp.{tied_then, unsigned_tied}
use Rattle.std.specs.Ordering.{nat_cmp, ordering_then}
use Rattle.std.proofs.lemmas.Bool.Decides.{nat_tests}
use Rattle.std.proofs.lemmas.List.Sums.{fold-append}
use Rattle.fdp_base.specs.declared.command.Write.{Write}
use Rattle.fdp_base.specs.declared.entry.Entry.{Entry}
use Rattle.fdp_base.specs.declared.entry.Host.{Host}
use Rattle.fdp_base.specs.EntryKinds.{host_of}
use Rattle.fdp_base.specs.Numbers.{is_among}
use Rattle.fdp_make.specs.Summary.{agrees, last_write, put_by, untold, wanted, write_in, write_made}
use Rattle.fdp_make.specs.Table.{TablePlace, Tells, place_cmp, write_for}

-- two places are one where each part is
place_is : (a b : TablePlace) → is_eq (place_cmp a b) ≡ ((a.0 == b.0 && a.1 == b.1) && a.2 == b.2)
place_is a b =
    let one : is_eq (ordering_then (nat_cmp a.0 b.0) (nat_cmp a.1 b.1)) ≡ (a.0 == b.0 && a.1 == b.1) =
    sym (tied_then (nat_cmp a.0 b.0) (nat_cmp a.1 b.1)) ∙ ap₂ (λ s t. s && t) (unsigned_tied a.0 b.0) (unsigned_tied a.1 b.1) in
    sym (tied_then (ordering_then (nat_cmp a.0 b.0) (nat_cmp a.1 b.1)) (nat_cmp a.2 b.2)) ∙ ap₂ (λ s t. s && t) one (unsigned_tied a.2 b.2)

-- one block more of a write
among_next : (first count lba : ℕ) → is_among first (count + 1) lba ≡ cond (first + count == lba) true (is_among first count lba)
among_next first count lba = grind (arith, nat_tests)

shown : (t : Bool) (w : Bor Write) (o : Option (Bor Write)) → option_map (λ x. x.now) (cond t (Some w) o) ≡ cond t (Some w.now) (option_map (λ x. x.now) o)
shown true w o = refl
shown false w o = refl

joined : {X : Type 0} (a b e i : Bool) (x y : X) → cond ((e && b) && a) x (cond (a && (b && i)) x y) ≡ cond (a && (b && cond e true i)) x y
joined true true true i x y = refl
joined true true false i x y = refl
joined true false true i x y = refl
joined true false false i x y = refl
joined false true true i x y = refl
joined false true false i x y = refl
joined false false true i x y = refl
joined false false false i x y = refl

-- the first blocks of a write were put into a table
abbrev pub IsPut : ℕ → ℕ → ℕ → Write → ℕ → BTreeMap TablePlace (Bor Write) → BTreeMap TablePlace (Bor Write) → Type 0
IsPut number nsid slba w count old new =
    (queue n lba : ℕ) → write_for new queue n lba ≡ cond (number == queue && (nsid == n && is_among slba count lba)) (Some w) (write_for old queue n lba)

pub put_next : (number nsid slba count : ℕ) (w : Bor Write) (old mid new : BTreeMap TablePlace (Bor Write))
    → Updates place_cmp mid new (slba + count, nsid, number) (Some w) → IsPut number nsid slba w.now count old mid → IsPut number nsid slba w.now (count + 1) old new
put_next number nsid slba count w old mid new updates h queue n lba =
    let e : Bool = slba + count == lba in
    ap (option_map (λ (x : Bor Write). x.now)) (updates.0 (lba, n, queue))
    ∙ shown (is_eq (place_cmp (slba + count, nsid, number) (lba, n, queue))) w _
    ∙ ap₂ (λ t o. cond t (Some w.now) o) (place_is (slba + count, nsid, number) (lba, n, queue)) (h queue n lba)
    ∙ joined (number == queue) (nsid == n) e (is_among slba count lba) (Some w.now) (write_for old queue n lba)
    ∙ ap (λ i. cond (number == queue && (nsid == n && i)) (Some w.now) (write_for old queue n lba)) (sym (among_next slba count lba))

-- ---- one entry more

pub last_write-push : (queue nsid lba : ℕ) (es : List Entry) (e : Entry) → last_write queue nsid lba (es ++ e ∷ []) ≡ option_or (write_in queue nsid lba e) (last_write queue nsid lba es)
unfolding last_write
last_write-push queue nsid lba es e = fold-append (λ (old : Option Write) (x : Entry). option_or (write_in queue nsid lba x) old) None es (e ∷ [])

-- a table took in what an entry wrote
abbrev pub TakesIn : BTreeMap TablePlace (Bor Write) → BTreeMap TablePlace (Bor Write) → Entry → Type 0
TakesIn old new e = (queue nsid lba : ℕ) → write_for new queue nsid lba ≡ option_or (write_in queue nsid lba e) (write_for old queue nsid lba)

pub tells_next : (old new : BTreeMap TablePlace (Bor Write)) (es : List Entry) (e : Entry) → TakesIn old new e → Tells old es → Tells new (es ++ e ∷ [])
tells_next old new es e takes tells queue nsid lba =
    takes queue nsid lba ∙ ap (option_or (write_in queue nsid lba e)) (tells queue nsid lba) ∙ sym (last_write-push queue nsid lba es e)

pub takes_host : (old new : BTreeMap TablePlace (Bor Write)) (e : Entry) (h : Host) → host_of e ≡ Some h
    → ((queue nsid lba : ℕ) → write_for new queue nsid lba ≡ option_or (write_made queue nsid lba h) (write_for old queue nsid lba)) → TakesIn old new e
takes_host old new e h is made queue nsid lba =
    made queue nsid lba ∙ ap (λ (o : Option Host). option_or (option_and_then (write_made queue nsid lba) o) (write_for old queue nsid lba)) (sym is)

pub takes_nothing : (table : BTreeMap TablePlace (Bor Write)) (e : Entry) → host_of e ≡ None → TakesIn table table e
takes_nothing table e none queue nsid lba =
    ap (λ (o : Option Host). option_or (option_and_then (write_made queue nsid lba) o) (write_for table queue nsid lba)) (sym none)

pub when_ok : {X E : Type 0} (P Q : Type 0) (r : Result X E) → (P → Q) → OnOk r P → OnOk r Q
when_ok P Q (Ok x) so h = so h
when_ok P Q (Err e) so h = tt

-- the table answers what a read is to find
pub wanted_by : (block queue nsid lba at : ℕ) (es : List Entry) (table : BTreeMap TablePlace (Bor Write)) (w : Bor Write) (bytes given : List ℕ)
    → at ≡ lba → Some w ≡ get place_cmp table (at, nsid, queue) → Tells table es → bytes ≡ given
    → bytes_eq (put_by block at w.now) bytes ≡ agrees (wanted block untold queue nsid lba es) given
wanted_by block queue nsid lba at es table w bytes given same found tells is =
    let last : Some w.now ≡ last_write queue nsid lba es =
    ap (option_map (λ (x : Bor Write). x.now)) (found ∙ ap (λ (n : ℕ). get place_cmp table (n, nsid, queue)) same) ∙ tells queue nsid lba in
    ap₂ (λ (n : ℕ) (xs : List ℕ). bytes_eq (put_by block n w.now) xs) same is
    ∙ ap (λ (o : Option Write). agrees (option_or (option_map (put_by block lba) o) None) given) last

-- an empty table tells of no entry
pub tells_nothing : (table : BTreeMap TablePlace (Bor Write)) → table.entries ≡ [] → Tells table []
unfolding last_write
tells_nothing table none queue nsid lba = ap (λ (xs : List (TablePlace × Bor Write)). option_map (λ (w : Bor Write). w.now) (lookup (is_at (place_cmp (lba, nsid, queue))) xs)) none
