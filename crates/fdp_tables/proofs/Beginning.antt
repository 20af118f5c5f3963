-- The tables of a machine whose run has no entry yet are sound.
use Rattle.std.proofs.Common.{◌≡◌, ℕ, ◌+◌, ◌<◌, ◌≤◌, zero, suc, Bool, true, false, cond, List, [], ◌∷◌, length, get_or, Option, None, Some, refl, ap, sym, subst, ◌∙◌, arith, All, ◌*◌}
use Rattle.std.specs.Prelude.{◌==◌, option_map, slice_index}
use Rattle.std.specs.Option.{option_map_or}
use Rattle.std.specs.Vec.{vec_items}
use Rattle.std.proofs.lemmas.List.{length-map, length-replicate}
use Rattle.std.proofs.lemmas.Option.{none-some}
use Rattle.fdp_base.specs.declared.config.Class.{Class}
use Rattle.fdp_base.specs.declared.config.DriveConfig.{DriveConfig}
use Rattle.fdp_base.specs.declared.config.NamespaceConfig.{NamespaceConfig}
use Rattle.fdp_base.specs.Config.{IsValidConfig, IsValidNamespace}
use Rattle.fdp_rules.specs.Effect.{chosen_handles}
use Rattle.fdp_base.specs.Geometry.{IsWithin}
use Rattle.fdp_rules.specs.History.{FoundNamespace, made_namespace}
use Rattle.fdp_base.specs.Placement.{handle_count}
use Rattle.fdp_rules.specs.PlainState.{Namespace}
use Rattle.fdp_tables.specs.declared.state.Kept.{Kept}
use Rattle.fdp_base.specs.declared.entry.Entry.{Entry}
use Rattle.fdp_tables.specs.declared.state.KeptGoing.{KeptGoing}
use Rattle.fdp_tables.specs.Fresh.{IsBlank, whole_reference}
use Rattle.fdp_tables.specs.Starts.{start_of}
use Rattle.fdp_tables.specs.State.{going_of, namespace_of, plain_of, row}
use Rattle.fdp_tables.proofs.Spaces.{row_absent}
use Rattle.fdp_tables.specs.Sound.{IsSound}
use Rattle.fdp_tables.proofs.First.{from_on, made_as}

-- a namespace that may be there has at most sixteen handles below sixteen, and was not created in the run
pub record IsFirst (o : Option Namespace) : Type 0 where
  pub handles : length (option_map_or (λ (x : Namespace). x.handles) o []) ≤ 16
  pub known : (i : ℕ) → slice_index (option_map_or (λ (x : Namespace). x.handles) o []) i < 16
  pub birth : option_map_or (λ (x : Namespace). x.birth) o 0 ≡ 0

pub each_known : (n : ℕ) (xs : List ℕ) → n ≤ 16 → All (λ ruh. ruh < n) xs → (i : ℕ) → slice_index xs i < 16
each_known n [] few h i = omega arith
each_known n (x ∷ xs) few h zero = omega (arith, h zero 0 (omega arith))
each_known n (x ∷ xs) few h (suc i) = each_known n xs few (λ k d below. h (suc k) d (omega arith)) i

zero_known : (i : ℕ) → slice_index (0 ∷ []) i < 16
zero_known zero = omega arith
zero_known (suc i) = omega arith

chosen_known : (xs : List ℕ) → ((i : ℕ) → slice_index xs i < 16) → (i : ℕ) → slice_index (chosen_handles xs) i < 16
chosen_known [] h i = zero_known i
chosen_known (x ∷ xs) h i = h i

chosen_few : (xs : List ℕ) → length xs ≤ 16 → length (chosen_handles xs) ≤ 16
chosen_few [] h = omega arith
chosen_few (x ∷ xs) h = h

few_at : (xs : List (List Class)) → All (λ classes. IsWithin 1 16 (length classes)) xs → (i : ℕ) → length (get_or xs i []) ≤ 16
few_at [] h i = omega arith
few_at (x ∷ xs) h zero = (h zero [] (omega arith)).1
few_at (x ∷ xs) h (suc i) = few_at xs (λ k d below. h (suc k) d (omega arith)) i

pub few_handles : (c : DriveConfig) → IsValidConfig c → (enabled : Bool) (index : ℕ) → handle_count c enabled index ≤ 16
few_handles c valid true index = few_at c.fdp valid.ranges.handles index
few_handles c valid false index = omega arith

first_valid : (c : DriveConfig) → IsValidConfig c → (x : NamespaceConfig) (o : Option (List ℕ)) → x.handles ≡ o → IsValidNamespace c x → IsFirst (Some (made_as x))
first_valid c valid x None e v = record {
  handles = rw e (omega arith);
  known = λ i. rw e (zero_known i);
  birth = refl;
}
first_valid c valid x (Some list) e v =
    let h = v.handles list e in
    record {
      handles = rw e (chosen_few list h.1.number.1);
      known = λ i. rw e (chosen_known list (each_known (handle_count c c.enabled c.index) list (few_handles c valid c.enabled c.index) h.1.known) i);
      birth = refl;
    }

first_none : IsFirst None
first_none = record { handles = omega arith; known = λ i. omega arith; birth = refl }

either_first : (b : Bool) (x : FoundNamespace) (o : Option FoundNamespace) → IsFirst (Some x.namespace) → IsFirst (option_map (λ (n : FoundNamespace). n.namespace) o) → IsFirst (option_map (λ (n : FoundNamespace). n.namespace) (cond b (Some x) o))
either_first true x o h r = h
either_first false x o h r = r

each_first : (c : DriveConfig) → IsValidConfig c → (xs : List NamespaceConfig) → All (IsValidNamespace c) xs → (first nsid : ℕ) → IsFirst (from_on first xs nsid)
each_first c valid [] h first nsid = first_none
each_first c valid (x ∷ xs) h first nsid = either_first (first == nsid) (made_namespace (first, x)) _ (first_valid c valid x x.handles refl (h zero x (omega arith))) (each_first c valid xs (λ k d below. h (suc k) d (omega arith)) (first + 1) nsid)

pub blank_sound : (c : DriveConfig) → IsValidConfig c → (k : Kept) → IsBlank c k → IsSound k
blank_sound c valid k h =
    let each : (nsid : ℕ) → IsFirst (option_map namespace_of (row k.spaces.items nsid)) = λ nsid. subst IsFirst (sym (h.spaces.namespaces nsid)) (each_first c valid c.namespaces valid.ranges.each_namespace 1 nsid) in
    let none : (queue : ℕ) → (plain_of k).going queue ≡ None = λ queue.
    ap (λ (rows : List (Option KeptGoing)). option_map going_of (row rows queue)) h.going
    ∙ ap (λ (o : Option KeptGoing). option_map going_of o) (row_absent {X = KeptGoing} (c.queues + 1) queue) in
    let one : length k.sites.rows ≡ 1 = ap length h.sites in
    record {
      config = subst IsValidConfig (sym h.config) valid;
      start = subst (λ (starts : List ℕ). start_of starts ≤ length k.entries.items) (sym h.starts) (omega arith);
      index = rw (h.index, h.config) valid.ranges.index;
      generation = omega (arith, h.generation);
      spaces = h.spaces.count;
      handles = λ nsid. (each nsid).handles;
      known = λ nsid i. (each nsid).known i;
      births = λ nsid. subst (λ (n : ℕ). n ≤ length k.entries.items) (sym (each nsid).birth) (omega arith);
      reports = ap length h.reports;
      references = ap length h.references ∙ length-replicate (16 * c.groups) (whole_reference c) ∙ ap (λ (b : DriveConfig). 16 * b.groups) (sym h.config);
      going = ap length h.going ∙ length-replicate (c.queues + 1) None ∙ ap (λ (b : DriveConfig). b.queues + 1) (sym h.config);
      writes = λ queue g e. absurd (none-some g (sym (none queue) ∙ e));
      tickets = λ a b g i e f same. absurd (none-some g (sym (none a) ∙ e));
      lost = ap length h.lost ∙ length-replicate (c.groups * c.units) false ∙ ap (λ (b : DriveConfig). b.groups * b.units) (sym h.config);
      worn = ap length h.worn ∙ length-replicate c.groups false ∙ ap (λ (b : DriveConfig). b.groups) (sym h.config);
      sites = one ∙ ap (λ (es : List Entry). length es + 1) (sym h.entries);
      found_pages = λ nsid lba b spot e _. absurd (none-some b (sym (h.spaces.empty nsid lba) ∙ e));
      copies = sym (length-map k.copies.items vec_items) ∙ ap length h.copies ∙ length-replicate c.groups [] ∙ ap (λ (b : DriveConfig). b.groups) (sym h.config);
      host_blocks = omega (arith, h.host_blocks);
      media_blocks = omega (arith, h.media_blocks);
      erases = omega (arith, h.erases);
    }
