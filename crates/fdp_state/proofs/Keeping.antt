-- What an image may say of a drive stays so with each change that fits.
use Rattle.std.proofs.Common.{◌≡◌, ◌≢◌, ℕ, zero, suc, ◌+◌, ◌-◌, ◌<◌, ◌≤◌, Bool, true, false, IsTrue, List, [], ◌∷◌, length, Option, None, Some, refl, ap, sym, ◌∙◌, subst, arith, ⊎_elim}
use Rattle.std.specs.Prelude.{◌==◌, ◌&&◌, All, not, if◌then◌else◌, is_some, nat_le, nat_lt, slice_get, option_map}
use Rattle.std.specs.List.{list_all, list_any}
use Rattle.std.specs.Option.{option_map_or}
use Rattle.std.proofs.lemmas.Bool.{and_parts, eqb-true, leb-true, ltb-true}
use Rattle.std.proofs.lemmas.Bool.Decides.{eqb_tells}
use Rattle.std.proofs.lemmas.List.Elements.{All-cons, All-nil}
use Rattle.fdp_base.specs.declared.config.DriveConfig.{DriveConfig}
use Rattle.fdp_base.specs.declared.entry.Totals.{Totals}
use Rattle.fdp_base.specs.Config.{IsHandleList}
use Rattle.fdp_base.specs.Numbers.{has_repeat, is_among, numbers_from}
use Rattle.fdp_base.specs.Placement.{full_budget}
use Rattle.fdp_history.proofs.Distinct.{no_repeat}
use Rattle.fdp_history.proofs.Sizes.{created-sizes, deleted-sizes, no-sizes}
use Rattle.fdp_history.proofs.Tables.{none-any, with_at-each}
use Rattle.fdp_rules.specs.Effect.{is_in_ranges}
use Rattle.fdp_rules.specs.PlainState.{Namespace}
use Rattle.fdp_rules.specs.Room.{namespace_ids}
use Rattle.fdp_records.specs.declared.change.Change.{Change}
use Rattle.fdp_records.specs.declared.change.Change.TheVariants as changes
use Rattle.fdp_image.specs.Applied.{applied}
use Rattle.fdp_image.specs.Changed.{moved_to, moves_of}
use Rattle.fdp_image.specs.CheckpointRows.{is_namespace_id}
use Rattle.fdp_image.specs.Outline.{outline, state_with}
use Rattle.fdp_image.specs.Reading.{Reading, size_in}
use Rattle.fdp_image.specs.Valid.{IsGoodNamespace}
use Rattle.fdp_image.specs.Fits.{are_born, blocks_of_all, fits, handles_in, has_namespace, has_room, is_born, is_free_id, is_handle_list, lies_within, may_have, names_what_is}
use Rattle.fdp_state.specs.Good.{IsGood, LiesWithin}
use Rattle.fdp_outline.proofs.Naming.{left}
use Rattle.fdp_state.proofs.Named.{set_index, write_within}
use Rattle.fdp_state.proofs.Places.{id_is}

-- ---- tests that were passed

all-known : (count : ℕ) (handles : List ℕ) → list_all (λ ruh. nat_lt ruh count) handles ≡ true → All (λ ruh. ruh < count) handles
all-known count [] e = All-nil (λ ruh. ruh < count)
all-known count (x ∷ xs) e =
    let h = and_parts (nat_lt x count) (list_all (λ ruh. nat_lt ruh count) xs) e in
    All-cons (λ ruh. ruh < count) x xs (ltb-true x count h.0) (all-known count xs h.1)

not-true : (b : Bool) → not b ≡ true → b ≡ false
not-true true e = cc
not-true false e = refl

-- a list of handles that a namespace may have
pub list-of : (count : ℕ) (handles : List ℕ) → is_handle_list count handles ≡ true → IsHandleList count handles
list-of count handles e =
    let n : ℕ = length handles in
    let a = and_parts (nat_lt 0 n && nat_le n 16 && list_all (λ ruh. nat_lt ruh count) handles) (not (has_repeat handles)) e in
    let b = and_parts (nat_lt 0 n && nat_le n 16) (list_all (λ ruh. nat_lt ruh count) handles) a.0 in
    let d = and_parts (nat_lt 0 n) (nat_le n 16) b.0 in
    let some : 0 < n = ltb-true 0 n d.0 in
    record { number = (omega (arith, some), leb-true n 16 d.1); known = all-known count handles b.1; distinct = no_repeat handles (not-true (has_repeat handles) a.1) }

all-in : (test : ℕ → Bool) (first count q : ℕ) → list_all test (numbers_from first count) ≡ true → first ≤ q → q < first + count → test q ≡ true
unfolding numbers_from
all-in test first zero q e low high = absurd (omega (arith, low, high))
all-in test first (suc count) q e low high =
    let h = and_parts (test first) (list_all test (numbers_from (first + 1) count)) e in
    ⊎_elim
    (λ (same : (q == first ≡ true) × (q ≡ first)). ap test same.1 ∙ h.0)
    (λ (other : (q == first ≡ false) × (q ≢ first)). all-in test (first + 1) count q h.1 (omega (arith, low, other.1)) (omega (arith, high)))
    (eqb_tells q first)

-- no namespace that is there was created after a position
born-by : (r : Reading) (position : ℕ) → ((nsid : ℕ) (x : Namespace) → r.namespaces nsid ≡ Some x → IsTrue (is_namespace_id nsid)) → are_born r position ≡ true
    → (nsid : ℕ) (x : Namespace) → r.namespaces nsid ≡ Some x → x.birth ≤ position
unfolding namespace_ids
born-by r position ids e nsid x there =
    let id = id_is nsid (ids nsid x there) in
    let here : is_born r nsid position ≡ true = all-in (λ n. is_born r n position) 1 16 nsid e id.0 (omega (arith, id.1)) in
    leb-true x.birth position (sym (ap (λ (o : Option Namespace). option_map_or (λ (n : Namespace). nat_le n.birth position) o true) there) ∙ here)

-- a place within a namespace
pub within-of : (r : Reading) (nsid lba : ℕ) → lba < size_in r nsid → LiesWithin r nsid lba
within-of r nsid lba below = of_namespace (r.namespaces nsid) refl below where
  of_namespace : (o : Option Namespace) → r.namespaces nsid ≡ o → lba < option_map_or (λ (x : Namespace). x.size) o 0 → LiesWithin r nsid lba
  of_namespace None is low = absurd (omega (arith, low))
  of_namespace (Some x) is low = record { namespace = x; there = is; within = low }

-- ---- pages after a change

among-low : (first count n : ℕ) → is_among first count n ≡ true → (first ≤ n) × (n < first + count)
among-low first count n e = let h = and_parts (nat_le first n) (nat_lt n (first + count)) e in (leb-true first n h.0, ltb-true n (first + count) h.1)

written-within : (r : Reading) (nsid slba : ℕ) (pages : List ℕ) → ((n lba page : ℕ) → r.pages n lba ≡ Some page → LiesWithin r n lba) → lies_within r nsid slba (length pages) ≡ true
    → (n lba page : ℕ) → (if n == nsid && is_among slba (length pages) lba then slice_get pages (lba - slba) else r.pages n lba) ≡ Some page → LiesWithin r n lba
written-within r nsid slba pages old e n lba page = of_test (n == nsid && is_among slba (length pages) lba) refl where
  of_test : (b : Bool) → (n == nsid && is_among slba (length pages) lba) ≡ b → (if b then slice_get pages (lba - slba) else r.pages n lba) ≡ Some page → LiesWithin r n lba
  of_test false is at = old n lba page at
  of_test true is at =
      let h = and_parts (n == nsid) (is_among slba (length pages) lba) is in
      let k = among-low slba (length pages) lba h.1 in
      let l = and_parts (has_namespace r nsid) (nat_le (slba + length pages) (size_in r nsid)) e in
      let fits : slba + length pages ≤ size_in r nsid = leb-true (slba + length pages) (size_in r nsid) l.1 in
      subst (λ (i : ℕ). LiesWithin r i lba) (sym (eqb-true n nsid h.0)) (within-of r nsid lba (omega (arith, k.1, fits)))

cleared-within : (b : Bool) (o : Option ℕ) (page : ℕ) → (if b then None else o) ≡ Some page → o ≡ Some page
cleared-within true o page e = absurd cc
cleared-within false o page e = e

moved-within : (f : ℕ → ℕ) (o : Option ℕ) (page : ℕ) → option_map f o ≡ Some page → (old : ℕ) × (o ≡ Some old)
moved-within f None page e = absurd cc
moved-within f (Some x) page e = (x, refl)

-- ---- each change

module _ (c : DriveConfig) (r : Reading) where
  -- namespaces and placement are as they were
  kept-good : (new : Reading) → new.index ≡ r.index → new.enabled ≡ r.enabled → new.namespaces ≡ r.namespaces → IsGood c r
      → ((nsid : ℕ) (x : Namespace) → r.namespaces nsid ≡ Some x → x.birth ≤ new.totals.position)
      → ((nsid lba page : ℕ) → new.pages nsid lba ≡ Some page → LiesWithin r nsid lba) → IsGood c new
  kept-good new index enabled same h born within =
      let count : handles_in c r ≡ handles_in c new = sym (ap (λ e. handles_in c (record new { enabled = e })) enabled ∙ ap (λ i. handles_in c (record new { enabled = r.enabled; index = i })) index) in
      let at : (nsid : ℕ) → new.namespaces nsid ≡ r.namespaces nsid = λ nsid. ap (λ (f : ℕ → Option Namespace). f nsid) same in
      record {
        index = subst (λ i. i < length c.fdp) (sym index) h.index;
        identifiers = λ nsid x there. h.identifiers nsid x (sym (at nsid) ∙ there);
        namespaces = λ nsid x there.
            let old = h.namespaces nsid x (sym (at nsid) ∙ there) in
            record { some_blocks = old.some_blocks; list = subst (λ n. IsHandleList n x.handles) count old.list; born = born nsid x (sym (at nsid) ∙ there) };
        room =
            subst (λ n. blocks_of_all new ≤ full_budget c n) count
            (subst (λ (f : ℕ → Option Namespace). blocks_of_all (record new { namespaces = f }) ≤ full_budget c (handles_in c r)) (sym same) h.room);
        blocks = λ nsid lba page is. let old = within nsid lba page is in record { namespace = old.namespace; there = at nsid ∙ old.there; within = old.within };
      }

  -- a namespace more
  created-good : (totals : Totals) (nsid size : ℕ) (given : Bool) (handles : List ℕ) → IsGood c r
      → ((n : ℕ) (x : Namespace) → r.namespaces n ≡ Some x → x.birth ≤ totals.position) → names_what_is c r (changes.Create nsid size given handles) ≡ true
      → IsGood c (applied c r (changes.Create nsid size given handles, totals))
  unfolding applied names_what_is state_with
  created-good totals nsid size given handles h born e =
      let new : Namespace = record { size = size; handles = handles; given = given; birth = totals.position } in
      let a = and_parts (is_free_id r nsid) (may_have c r size handles) e in
      let free = and_parts (is_namespace_id nsid) (not (has_namespace r nsid)) a.0 in
      let b = and_parts (nat_lt 0 size && is_handle_list (handles_in c r) handles) (has_room c r size) a.1 in
      let d = and_parts (nat_lt 0 size) (is_handle_list (handles_in c r) handles) b.0 in
      let fits : blocks_of_all r + size ≤ full_budget c (handles_in c r) = leb-true (blocks_of_all r + size) (full_budget c (handles_in c r)) b.1 in
      let after : Reading = applied c r (changes.Create nsid size given handles, totals) in
      let more : blocks_of_all after ≤ blocks_of_all r + size = created-sizes (outline c r) (outline c after) nsid new refl in
      record {
        index = h.index;
        identifiers = with_at-each r.namespaces nsid (Some new) (λ n o. (x : Namespace) → o ≡ Some x → IsTrue (is_namespace_id n)) (λ x is. free.0) (λ n ne x there. h.identifiers n x there);
        namespaces = with_at-each r.namespaces nsid (Some new) (λ n o. (x : Namespace) → o ≡ Some x → IsGoodNamespace (handles_in c r) totals.position x)
            (λ x is.
            let same : new ≡ x = cc in
            subst (IsGoodNamespace (handles_in c r) totals.position) same
            (record { some_blocks = ltb-true 0 size d.0; list = list-of (handles_in c r) handles d.1; born = omega arith }))
            (λ n ne x there. let old = h.namespaces n x there in record { some_blocks = old.some_blocks; list = old.list; born = born n x there });
        room = omega (arith, more, fits);
        blocks = λ n lba page is.
            let old = h.blocks n lba page is in
            ⊎_elim
            (λ (same : (n == nsid ≡ true) × (n ≡ nsid)).
            let none : is_some (Some old.namespace) ≡ false = ap is_some (sym old.there ∙ ap r.namespaces same.1) ∙ not-true (has_namespace r nsid) free.1 in
            absurd cc)
            (λ (other : (n == nsid ≡ false) × (n ≢ nsid)).
            record { namespace = old.namespace; there = ap (λ (b : Bool). if b then Some new else r.namespaces n) other.0 ∙ old.there; within = old.within })
            (eqb_tells n nsid);
      }

  -- a namespace less
  deleted-good : (totals : Totals) (nsid : ℕ) → IsGood c r → ((n : ℕ) (x : Namespace) → r.namespaces n ≡ Some x → x.birth ≤ totals.position)
      → IsGood c (applied c r (changes.Delete nsid, totals))
  unfolding applied state_with
  deleted-good totals nsid h born =
      let after : Reading = applied c r (changes.Delete nsid, totals) in
      let less : blocks_of_all after ≤ blocks_of_all r = deleted-sizes (outline c r) (outline c after) nsid refl in
      record {
        index = h.index;
        identifiers = with_at-each r.namespaces nsid None (λ n o. (x : Namespace) → o ≡ Some x → IsTrue (is_namespace_id n)) (λ x is. absurd cc) (λ n ne x there. h.identifiers n x there);
        namespaces = with_at-each r.namespaces nsid None (λ n o. (x : Namespace) → o ≡ Some x → IsGoodNamespace (handles_in c r) totals.position x)
            (λ x is. absurd cc)
            (λ n ne x there. let old = h.namespaces n x there in record { some_blocks = old.some_blocks; list = old.list; born = born n x there });
        room = omega (arith, less, h.room);
        blocks = λ n lba page is. of_test n lba page (n == nsid) refl is;
      }
    where
      of_test : (n lba page : ℕ) (b : Bool) → (n == nsid) ≡ b → (if b then None else r.pages n lba) ≡ Some page → LiesWithin (applied c r (changes.Delete nsid, totals)) n lba
      of_test n lba page true is at = absurd cc
      of_test n lba page false is at =
          let old = h.blocks n lba page at in
          record { namespace = old.namespace; there = ap (λ (b : Bool). if b then None else r.namespaces n) is ∙ old.there; within = old.within }

  -- placement is set while there is no namespace
  no-namespace : IsGood c r → list_any (has_namespace r) namespace_ids ≡ false → (nsid : ℕ) → r.namespaces nsid ≡ None
  unfolding namespace_ids
  no-namespace h none nsid = of_namespace (r.namespaces nsid) refl where
    of_namespace : (o : Option Namespace) → r.namespaces nsid ≡ o → r.namespaces nsid ≡ None
    of_namespace None is = is
    of_namespace (Some x) is = let id = id_is nsid (h.identifiers nsid x is) in none-any r.namespaces 1 16 none nsid id.0 (omega (arith, id.1))

  placed-good : (totals : Totals) (enabled : Bool) (index generation : ℕ) → IsGood c r → names_what_is c r (changes.SetFdp enabled index generation) ≡ true
      → IsGood c (applied c r (changes.SetFdp enabled index generation, totals))
  unfolding applied names_what_is state_with
  placed-good totals enabled index generation h e =
      let none = no-namespace h (not-true (list_any (has_namespace r) namespace_ids) (left (not (list_any (has_namespace r) namespace_ids)) (nat_lt index (length c.fdp)) e)) in
      let after : Reading = applied c r (changes.SetFdp enabled index generation, totals) in
      let empty : blocks_of_all after ≤ 0 = no-sizes (outline c after) none in
      record {
        index = set_index c r enabled index generation e;
        identifiers = λ n x there. h.identifiers n x there;
        namespaces = λ n x there. let no : None ≡ Some x = sym (none n) ∙ there in absurd cc;
        room = omega (arith, empty);
        blocks = λ n lba page is. let old = h.blocks n lba page is in let no : None ≡ Some old.namespace = sym (none n) ∙ old.there in absurd cc;
      }

  -- ---- any change that fits

  of-change : (change : Change) (totals : Totals) → IsGood c r → ((n : ℕ) (x : Namespace) → r.namespaces n ≡ Some x → x.birth ≤ totals.position) → names_what_is c r change ≡ true
      → IsGood c (applied c r (change, totals))
  unfolding applied
  of-change (changes.Write nsid slba pid invalid pages) totals h born e =
      kept-good (applied c r (changes.Write nsid slba pid invalid pages, totals)) refl refl refl h born (written-within r nsid slba pages h.blocks (write_within c r nsid slba pid invalid pages e))
  of-change (changes.Clear nsid ranges) totals h born e =
      kept-good (applied c r (changes.Clear nsid ranges, totals)) refl refl refl h born (λ n lba page is. h.blocks n lba page (cleared-within (n == nsid && is_in_ranges ranges lba) (r.pages n lba) page is))
  of-change (changes.Update nsid closed pids) totals h born e = kept-good (applied c r (changes.Update nsid closed pids, totals)) refl refl refl h born h.blocks
  of-change (changes.Create nsid size given handles) totals h born e = created-good totals nsid size given handles h born e
  of-change (changes.Delete nsid) totals h born e = deleted-good totals nsid h born
  of-change (changes.SetFdp enabled index generation) totals h born e = placed-good totals enabled index generation h e
  of-change (changes.SetEvents ruh on mask) totals h born e = kept-good (applied c r (changes.SetEvents ruh on mask, totals)) refl refl refl h born h.blocks
  of-change (changes.Moved victim first second handles) totals h born e =
      kept-good (applied c r (changes.Moved victim first second handles, totals)) refl refl refl h born
      (λ n lba page is. let old = moved-within (moved_to (moves_of c victim first second)) (r.pages n lba) page is in h.blocks n lba old.0 old.1)
  of-change (changes.Shut rg ruh) totals h born e = kept-good (applied c r (changes.Shut rg ruh, totals)) refl refl refl h born h.blocks

  pub good-applied : (x : Change × Totals) → IsGood c r → fits c r x ≡ true → IsGood c (applied c r x)
  good-applied x h e =
      let f = and_parts (are_born r x.1.position) (names_what_is c r x.0) e in
      of-change x.0 x.1 h (born-by r x.1.position h.identifiers f.0) f.1
