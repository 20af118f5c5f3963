-- The names of flashes that are out.
use Rattle.std.proofs.Common.{◌≡◌, ◌∙◌, ℕ, Bool, true, false, List, cond, ap, refl, subst, sym, string_bytes}
use Rattle.std.specs.Prelude.{bytes_eq, String, Ok}
use Rattle.std.specs.BTreeSet.{UpdatesBy, contains_text}
use Rattle.std.specs.Cmp.Lexicographic.{slice_cmp}
use Rattle.std.specs.Ordering.{nat_cmp}
use Rattle.std.specs.String.{string_cmp}
use Rattle.std.specs.declared.alloc.Global.{Global}
use Rattle.std.proofs.lemmas.Map.Text.{btree_set_updates_text}
use Rattle.std.proofs.lemmas.Slice.Eq.{bytes_eq-Decides}
use Rattle.std.proofs.Math.Nat.{le_refl}
use Rattle.fdp_base.specs.Counts.{Rose, counted}
use Rattle.fdp_io.specs.declared.bench_file.BenchFile.{BenchFile}
use Rattle.fdp_io.specs.Bench.{SameFlashes}
use Rattle.fdp_io.specs.BenchFile.{AddsName, Names, SetsName, file_bench}

pub name_set : (name : List ℕ) (old new : Names) (among : Bool) → UpdatesBy string_cmp (λ (k : String Global). slice_cmp nat_cmp name (string_bytes k)) old new among → SetsName old new name among
name_set name old new among updates =
    let at = btree_set_updates_text name old new among updates in
    record {
      here = at name ∙ ap (λ b. cond b among (contains_text old name)) ((bytes_eq-Decides name name).1 refl);
      elsewhere = λ other ne. at other ∙ ap (λ b. cond b among (contains_text old other)) ne;
    }

-- what holds of this name and of each other one
pub by_name : (name other : List ℕ) (P : Type 0) → (name ≡ other → P) → (bytes_eq name other ≡ false → P) → P
by_name name other P same ne =
    (elim (bytes_eq name other) as (λ b. bytes_eq name other ≡ b → P) [
      | true ↦ λ is. same ((bytes_eq-Decides name other).0 is)
      | false ↦ λ is. ne is
    ]) refl

-- a name that was added and taken away again leaves the names as they were
pub gone_again : (old mid new : Names) (name : List ℕ) → contains_text old name ≡ false → SetsName old mid name true → SetsName mid new name false → contains_text new ≡ contains_text old
gone_again old mid new name none added gone =
    let each : (other : List ℕ) → contains_text new other ≡ contains_text old other = λ other.
    by_name name other (contains_text new other ≡ contains_text old other)
    (λ same. ap (contains_text new) (sym same) ∙ gone.here ∙ sym none ∙ ap (contains_text old) same)
    (λ ne. gone.elsewhere other ne ∙ added.elsewhere other ne)
    in λ d other. each other d

-- so it is where the answer was that it is added
pub taken_back : (old mid gone : Names) (name : List ℕ) (added : Bool) → added ≡ true → AddsName old mid name (Ok added) → SetsName mid gone name false → contains_text gone ≡ contains_text old
taken_back old mid gone name added is adds removed =
    let sets = subst (λ (b : Bool). AddsName old mid name (Ok b)) is adds in
    gone_again old mid gone name sets.0 sets.1 removed

-- a flash that was not handed out after all, which was counted, is not out
pub not_out : {R : Type 0} (old new : BenchFile R) (mid gone : Names) (files : R) (name : List ℕ) (added : Bool) → added ≡ true → AddsName old.out mid name (Ok added) → SetsName mid gone name false →
    new ≡ record { files = files; faults = counted old.faults; out = gone } → SameFlashes (file_bench old) (file_bench new) × Rose old.faults new.faults
not_out {R} old new mid gone files name added is adds removed left =
    subst (λ (b : BenchFile R). SameFlashes (file_bench old) (file_bench b) × Rose old.faults b.faults) (sym left)
    (record { images = refl; out = taken_back old.out mid gone name added is adds removed }, le_refl (counted old.faults))
