-- The flashes of a bench in memory by their names.
use Rattle.std.proofs.Common.{◌≡◌, ◌∙◌, ℕ, true, false, List, Option, Some, None, cond, ap, refl, subst, sym, string_bytes}
use Rattle.std.specs.Prelude.{◌≢◌, String, Result, Ok, Err, MatchResult, OnErr}
use Rattle.std.specs.BTreeMap.{UpdatesBy, get_by_text, is_at}
use Rattle.std.specs.Map.{lookup}
use Rattle.std.specs.Cmp.Lexicographic.{slice_cmp}
use Rattle.std.specs.Option.{option_flatten, option_map, option_map_or}
use Rattle.std.specs.Ordering.{nat_cmp}
use Rattle.std.specs.String.{string_cmp}
use Rattle.std.specs.declared.alloc.Global.{Global}
use Rattle.std.proofs.lemmas.Map.Text.{btree_map_updates_text}
use Rattle.std.proofs.lemmas.Slice.Eq.{bytes_eq-Decides}
use Rattle.std.proofs.lemmas.Bool.{false≢true}
use Rattle.fdp_base.specs.declared.config.Geometry.{Geometry}
use Rattle.fdp_flash.specs.declared.memory.FlashMem.{FlashMem}
use Rattle.fdp_flash.specs.FlashMem.{state_of}
use Rattle.fdp_io.specs.declared.bench.NotTaken.{NotTaken}
use Rattle.fdp_io.specs.declared.bench.NotTaken.TheVariants as refusals
use Rattle.fdp_io.specs.declared.bench_mem.BenchMem.{BenchMem}
use Rattle.fdp_io.specs.declared.calls.Calls.{Calls}
use Rattle.fdp_io.specs.Bench.{BenchState, Image, IsFlashFor, IsMadeFlash, KeepsFlash, PutsBack, SameElsewhere, SameFlashes, TakesFlash}
use Rattle.fdp_io.specs.BenchMem.{LaysFlash, bench_state}
use Rattle.fdp_io.specs.Berths.{Berths, SetsBerth, flash_in, image_of, is_empty, is_out_of}
use Rattle.fdp_io.specs.Calls.{faults_of}
use Rattle.fdp_io.proofs.OutNames.{by_name}

-- an entry that was set by its name is a berth that was set
pub berth_set : (name : List ℕ) (old new : Berths) (berth : Option FlashMem) → UpdatesBy string_cmp (λ (k : String Global). slice_cmp nat_cmp name (string_bytes k)) old new (Some berth) → SetsBerth old new name berth
berth_set name old new berth updates =
    let at = btree_map_updates_text name old new (Some berth) updates in
    record {
      here = at name ∙ ap (λ b. cond b (Some berth) (get_by_text old name)) ((bytes_eq-Decides name name).1 refl);
      elsewhere = λ other ne. at other ∙ ap (λ b. cond b (Some berth) (get_by_text old other)) ne;
    }

-- a berth that was empty and is set so once more is as it was, and so are all
pub emptied_again : (old new : Berths) (name : List ℕ) → get_by_text old name ≡ Some None → SetsBerth old new name None → get_by_text new ≡ get_by_text old
emptied_again old new name empty sets =
    let each : (other : List ℕ) → get_by_text new other ≡ get_by_text old other = λ other.
    by_name name other (get_by_text new other ≡ get_by_text old other)
    (λ same. ap (get_by_text new) (sym same) ∙ sets.here ∙ sym empty ∙ ap (get_by_text old) same)
    (sets.elsewhere other)
    in λ d other. each other d

-- berths that hold the same have the same flashes
same_images : (old new : Berths) → get_by_text new ≡ get_by_text old → ◌≡◌ {A = List ℕ → Option Image} (λ name. option_map image_of (flash_in new name)) (λ name. option_map image_of (flash_in old name))
same_images old new same = ap (λ (f : List ℕ → Option (Option FlashMem)). λ (name : List ℕ). option_map image_of (option_flatten (f name))) same

-- and the same ones are out
same_out : (old new : Berths) → get_by_text new ≡ get_by_text old → is_out_of new ≡ is_out_of old
same_out old new same = ap (λ (f : List ℕ → Option (Option FlashMem)). λ (name : List ℕ). option_map_or is_empty (f name) false) same

-- ---- the bench with these berths

abbrev pub with_berths : BenchMem → Berths → Calls → BenchState
with_berths bench berths calls = bench_state (record bench { berths = berths; calls = calls })

pub same_flashes : (old : BenchMem) (berths : Berths) (calls : Calls) → get_by_text berths ≡ get_by_text old.berths → SameFlashes (bench_state old) (with_berths old berths calls)
same_flashes old berths calls same = record { images = same_images old.berths berths same; out = same_out old.berths berths same }

pub same_elsewhere : (old : BenchMem) (berths : Berths) (calls : Calls) (name : List ℕ) (berth : Option FlashMem) → SetsBerth old.berths berths name berth → SameElsewhere (bench_state old) (with_berths old berths calls) name
same_elsewhere old berths calls name berth sets = record {
  images = λ other ne. ap (λ o. option_map image_of (option_flatten o)) (sets.elsewhere other ne);
  out = λ other ne. ap (λ o. option_map_or is_empty o false) (sets.elsewhere other ne);
}

sets_from : (old mid new : Berths) (name : List ℕ) (berth : Option FlashMem) → get_by_text mid ≡ get_by_text old → SetsBerth mid new name berth → SetsBerth old new name berth
sets_from old mid new name berth same sets = record {
  here = sets.here;
  elsewhere = λ other ne. sets.elsewhere other ne ∙ ap (λ (f : List ℕ → Option (Option FlashMem)). f other) same;
}

-- a flash was made under a name that had none, or memory was wanting
pub made_taken : (old : BenchMem) (mid berths : Berths) (calls : Calls) (name : List ℕ) (geometry : Geometry) (r : Result FlashMem NotTaken) → get_by_text old.berths name ≡ None → get_by_text mid ≡ get_by_text old.berths →
    faults_of calls ≡ faults_of old.calls → MatchResult r (λ flash. IsMadeFlash geometry (state_of flash) × SetsBerth mid berths name None) (λ refusal. (refusal ≡ refusals.NoMemory) × (get_by_text berths ≡ get_by_text mid)) →
    TakesFlash state_of (bench_state old) (with_berths old berths calls) name geometry r
made_taken old mid berths calls name geometry (Ok flash) none same faults made =
    let sets = sets_from old.berths mid berths name None same made.1 in
    record {
      unfailing = faults;
      lay_there = ap (λ o. option_map_or is_empty o false) none;
      is_out_now = ap (λ o. option_map_or is_empty o false) sets.here;
      elsewhere = same_elsewhere old berths calls name None sets;
      flash_is = λ told. subst (λ (o : Option (Option FlashMem)). IsFlashFor (option_map image_of (option_flatten o)) geometry (state_of flash)) (sym none) made.0;
    }
made_taken old mid berths calls name geometry (Err refusal) none same faults wanting =
    subst (λ (r : NotTaken). KeepsFlash (bench_state old) (with_berths old berths calls) r) (sym wanting.0) (same_flashes old berths calls (wanting.1 ∙ same), faults)

-- a flash that is out was asked for once more, which was counted
pub out_still : (old : BenchMem) (berths : Berths) (calls : Calls) (name : List ℕ) → get_by_text old.berths name ≡ Some None → SetsBerth old.berths berths name None → SameFlashes (bench_state old) (with_berths old berths calls)
out_still old berths calls name empty sets = same_flashes old berths calls (emptied_again old.berths berths name empty sets)

-- a flash was put back
pub put_back : (old : BenchMem) (berths : Berths) (calls : Calls) (name : List ℕ) (flash : FlashMem) → SetsBerth old.berths berths name (Some flash) → PutsBack (bench_state old) (with_berths old berths calls) name (state_of flash)
put_back old berths calls name flash sets = record {
  is_back = ap (λ o. option_map_or is_empty o false) sets.here;
  elsewhere = same_elsewhere old berths calls name (Some flash) sets;
  image_is = λ told tells. ap (λ o. option_map image_of (option_flatten o)) sets.here;
}

-- a flash was laid down
pub laid_down : (old : BenchMem) (berths : Berths) (calls : Calls) (name : List ℕ) (flash : FlashMem) → faults_of calls ≡ faults_of old.calls → SetsBerth old.berths berths name (Some flash) → LaysFlash (bench_state old) name flash (with_berths old berths calls)
laid_down old berths calls name flash faults sets = record {
  lies = ap (λ o. option_map image_of (option_flatten o)) sets.here;
  lies_there = ap (λ o. option_map_or is_empty o false) sets.here;
  elsewhere = same_elsewhere old berths calls name (Some flash) sets;
  texts = record { told_still = refl; texts = refl };
  same_faults = faults;
}

-- what is out has a berth
pub out_berth : (berths : Berths) (name : List ℕ) → is_out_of berths name ≡ true → get_by_text berths name ≢ None
out_berth berths name out none = false≢true (sym (ap (λ o. option_map_or is_empty o false) none) ∙ out)

-- what holds anyway holds after a failure
pub on_err-always : {T E P : Type 0} (r : Result T E) → P → OnErr r P
on_err-always (Ok x) holds = tt
on_err-always (Err e) holds = holds

-- berths with the same entries hold the same
pub same_entries : (old new : Berths) → new.entries ≡ old.entries → get_by_text new ≡ get_by_text old
same_entries old new same = ap (λ (es : List (String Global × Option FlashMem)). λ (name : List ℕ). lookup (is_at (λ (k : String Global). slice_cmp nat_cmp name (string_bytes k))) es) same

pub some_not_none : {X : Type 0} (o : Option X) (x : X) → o ≡ Some x → o ≢ None
some_not_none o x is none = cc
