-- What stands before a step stands after it.
use Rattle.std.proofs.Common.{◌≡◌, ◌≢◌, ℕ, zero, suc, ◌+◌, ◌-◌, ◌<◌, ◌≤◌, Bool, true, false, cond, List, [], ◌∷◌, ◌++◌, Option, Some, None, refl, ap, sym, ◌∙◌, subst, arith, ⊎_elim}
use Rattle.std.specs.Prelude.{IsSome, count_by, is_some, nat_le, option_map, if◌then◌else◌}
use Rattle.std.proofs.lemmas.Bool.{cases_eq, cases_lt, leb-true}
use Rattle.std.proofs.lemmas.List.Elements.{Contains-append_left, Contains-push}
use Rattle.std.proofs.lemmas.List.Sums.{sum_by-cons}
use Rattle.fdp_base.specs.declared.config.Class.{Class}
use Rattle.fdp_base.specs.declared.entry.Copied.{Copied}
use Rattle.fdp_base.specs.declared.entry.Spot.{Spot}
use Rattle.fdp_base.specs.Numbers.{numbers_from}
use Rattle.fdp_collector.specs.Ready.{AreTargets, IsReady, IsUnitOf, Relocation, lane_at}
use Rattle.fdp_collector.specs.Step.{AddsCopy, SkipsPage}
use Rattle.fdp_collector.proofs.Kept.{cut-kept, never-some}
use Rattle.fdp_collector.proofs.Using.{IsUsable, uses-live, uses-other, uses-pass, uses-room, uses-targets}
use Rattle.fdp_owners.specs.declared.owner.Owner.{Owner}
use Rattle.fdp_owners.specs.OwnerTable.{OwnerTable, owner_at}
use Rattle.fdp_owners.proofs.Tables.{owned-within}
use Rattle.fdp_passes.specs.declared.lane.Lane.{Lane}
use Rattle.fdp_passes.specs.Due.{HasCopied, IsOldPage}
use Rattle.fdp_passes.specs.GroupPasses.{GroupPasses, Pass, with_copy}
use Rattle.fdp_passes.specs.Place.{has_taken}
use Rattle.fdp_passes.specs.Room.{left_in, live_among, room_in, wanted_in}
use Rattle.fdp_units.specs.declared.state.UnitState.TheVariants.{Closed}

-- ---- live pages from a page on

fewer-behind : (test : ℕ → Bool) (first more count : ℕ) → count_by test (numbers_from (first + more) count) ≤ count_by test (numbers_from first (more + count))
unfolding numbers_from
fewer-behind test first zero count =
    let here : count_by test (numbers_from (first + 0) count) ≡ count_by test (numbers_from first count) = ap (λ (k : ℕ). count_by test (numbers_from k count)) (omega arith) in
    let none : 0 + count ≡ count = omega arith in
    let size : count_by test (numbers_from first (0 + count)) ≡ count_by test (numbers_from first count) = ap (λ (k : ℕ). count_by test (numbers_from first k)) none in
    omega (arith, here, size)
fewer-behind test first (suc more) count =
    let rest : count_by test (numbers_from (first + 1 + more) count) ≤ count_by test (numbers_from (first + 1) (more + count)) = fewer-behind test (first + 1) more count in
    let at : count_by test (numbers_from (first + 1 + more) count) ≡ count_by test (numbers_from (first + suc more) count) = ap (λ (k : ℕ). count_by test (numbers_from k count)) (omega arith) in
    let sum : suc more + count ≡ suc (more + count) = omega arith in
    let size : count_by test (numbers_from first (suc more + count)) ≡ count_by test (numbers_from first (suc (more + count))) = ap (λ (k : ℕ). count_by test (numbers_from first k)) sum in
    let longer : count_by test (numbers_from first (suc (more + count))) ≡ cond (test first) 1 0 + count_by test (numbers_from (first + 1) (more + count)) = sum_by-cons (λ i. cond (test i) 1 0) first (numbers_from (first + 1) (more + count)) in
    omega (arith, rest, at, size, longer)

one-behind : (test : ℕ → Bool) (first count : ℕ) → test first ≡ true → count_by test (numbers_from (first + 1) count) + 1 ≡ count_by test (numbers_from first (suc count))
unfolding numbers_from
one-behind test first count is =
    let counts : Bool → ℕ = λ b. cond b 1 0 in
    let longer : count_by test (numbers_from first (suc count)) ≡ counts (test first) + count_by test (numbers_from (first + 1) count) = sum_by-cons (λ i. cond (test i) 1 0) first (numbers_from (first + 1) count) in
    let one : counts (test first) ≡ counts true = ap counts is in
    omega (arith, longer, one)

-- behind a live page one page less is live than from a page before it on
less-wanted : (o : OwnerTable) (unit first page : ℕ) (x : Owner) → first ≤ page → owner_at o (record { unit = unit; page = page }) ≡ Some x → live_among o unit (page + 1) (o.unit_pages - (page + 1)) + 1 ≤ live_among o unit first (o.unit_pages - first)
less-wanted o unit first page x low is =
    let test : ℕ → Bool = λ k. is_some (owner_at o (record { unit = unit; page = k })) in
    let within : page < o.unit_pages = owned-within o (record { unit = unit; page = page }) x is in
    let one = one-behind test page (o.unit_pages - (page + 1)) (ap is_some is) in
    let all = fewer-behind test first (page - first) (suc (o.unit_pages - (page + 1))) in
    let at : count_by test (numbers_from (first + (page - first)) (suc (o.unit_pages - (page + 1)))) ≡ count_by test (numbers_from page (suc (o.unit_pages - (page + 1)))) = ap (λ (k : ℕ). count_by test (numbers_from k (suc (o.unit_pages - (page + 1))))) (omega (arith, low)) in
    let size : count_by test (numbers_from first (page - first + suc (o.unit_pages - (page + 1)))) ≡ count_by test (numbers_from first (o.unit_pages - first)) = ap (λ (k : ℕ). count_by test (numbers_from first k)) (omega (arith, low, within)) in
    omega (arith, one, all, at, size)

-- ---- one copy more

-- a pass under way that copies a page next
pub record IsCopying (s : Relocation) (o : OwnerTable) (from : Spot) : Type 0 where
  pub pass : Pass
  pub under_way : s.passes.pass ≡ Some pass
  pub victim : pass.victim ≡ from.unit
  pub order : pass.next ≤ from.page
  pub none : (page : ℕ) → pass.next ≤ page → page < from.page → owner_at o (record { unit = from.unit; page = page }) ≡ None

same-pass : {a b : Pass} → Some a ≡ Some b → a ≡ b
same-pass e = cc

one-more-copied : (s : Relocation) (o : OwnerTable) (copy : Copied) → HasCopied s.passes o → (h : IsCopying s o copy.from) → (page : ℕ) → page < copy.from.page + 1 → IsSome (owner_at o (record { unit = h.pass.victim; page = page })) → IsOldPage (h.pass.copies ++ copy ∷ []) (record { unit = h.pass.victim; page = page })
one-more-copied s o copy copied h page low live = ⊎_elim
    (λ (before : page < h.pass.next). let old = copied h.pass page h.under_way before live in (old.0, Contains-append_left h.pass.copies (copy ∷ []) old.0 old.1, old.2))
    (λ (behind : h.pass.next ≤ page). ⊎_elim
    (λ (same : page ≡ copy.from.page). (copy, Contains-push h.pass.copies copy, ap (λ (u : ℕ). record { unit = u; page = copy.from.page }) (sym h.victim) ∙ ap (λ (k : ℕ). record { unit = h.pass.victim; page = k }) (sym same)))
    (λ (ne : page ≢ copy.from.page).
    let gone : owner_at o (record { unit = h.pass.victim; page = page }) ≡ None = ap (λ (u : ℕ). owner_at o (record { unit = u; page = page })) h.victim ∙ h.none page behind (omega (arith, low, ne)) in
    absurd (no (sym (ap is_some gone) ∙ live)))
    (cases_eq page copy.from.page))
    (cases_lt page h.pass.next) where
      no : false ≡ true → ⊥
      no e = cc

pub copied-ready : (s now : Relocation) (o : OwnerTable) (classes : List Class) (rg : ℕ) (lane : Lane) (copy : Copied) (x : Owner) → IsReady s o classes rg → IsCopying s o copy.from → owner_at o copy.from ≡ Some x → lane_at classes x ≡ lane → IsUsable s lane copy.to.unit → AddsCopy s now lane copy → IsReady now o classes rg
copied-ready s now o classes rg lane copy x ready h owned way is adds =
    let same = uses-pass s adds.passes now.units lane copy.to.unit is adds.used in
    let pass-is : option_map (with_copy copy) adds.passes.pass ≡ Some (with_copy copy h.pass) = ap (option_map (with_copy copy)) (same.0 ∙ h.under_way) in
    let targets = uses-targets s adds.passes now.units rg lane copy.to.unit ready.targets is adds.used in
    let room = uses-room s adds.passes now.units lane copy.to.unit is adds.used in
    let here : owner_at o (record { unit = h.pass.victim; page = copy.from.page }) ≡ Some x = ap (λ (u : ℕ). owner_at o (record { unit = u; page = copy.from.page })) h.victim ∙ owned in
    let enough : wanted_in s.passes o ≤ room_in s.passes s.units lane = subst (λ (l : Lane). wanted_in s.passes o ≤ room_in s.passes s.units l) way (ready.enough h.pass copy.from.page x h.under_way h.order here) in
    let before : wanted_in s.passes o ≡ live_among o h.pass.victim h.pass.next (o.unit_pages - h.pass.next) = ap (λ (q : Option Pass). wanted_in (record s.passes { pass = q }) o) h.under_way in
    let less : live_among o h.pass.victim (copy.from.page + 1) (o.unit_pages - (copy.from.page + 1)) + 1 ≤ live_among o h.pass.victim h.pass.next (o.unit_pages - h.pass.next) = less-wanted o h.pass.victim h.pass.next copy.from.page x h.order here in
    let p : GroupPasses = record adds.passes { pass = Some (with_copy copy h.pass) } in
    let taken : has_taken adds.passes ≡ has_taken p = ap (λ (q : Option Pass). has_taken (record adds.passes { pass = q })) (same.0 ∙ h.under_way) in
    let left : room_in p now.units lane ≡ room_in adds.passes now.units lane = ap (λ (b : Bool). left_in adds.passes now.units lane + (if b then 0 else now.units.unit_pages)) (sym taken) in
    subst (λ (q : GroupPasses). IsReady (record { passes = q; units = now.units }) o classes rg) (sym (adds.copied ∙ ap (λ (q : Option Pass). record adds.passes { pass = q }) pass-is)) (record {
      cut = cut-kept s.passes p s.units now.units o same.1 adds.used.page.cut ready.cut;
      victim = λ pass e. subst (λ (u : ℕ). IsUnitOf now.units rg u Closed) (ap (λ (y : Pass). y.victim) (same-pass e)) (uses-other s adds.passes now.units rg lane copy.to.unit h.pass.victim is adds.used (ready.victim h.pass h.under_way));
      copied = λ pass page e. subst (λ (y : Pass). page < y.next → IsSome (owner_at o (record { unit = y.victim; page = page })) → IsOldPage y.copies (record { unit = y.victim; page = page })) (same-pass e) (one-more-copied s o copy ready.copied h page);
      targets = record { targets = targets.targets; apart = targets.apart };
      live = uses-live s adds.passes now.units o lane copy.to.unit ready.live is adds.used;
      lanes = ready.lanes;
      enough = λ pass page y e low owns.
          let unit : pass.victim ≡ copy.from.unit = sym (ap (λ (z : Pass). z.victim) (same-pass e)) ∙ h.victim in
          let lanes : lane ≡ lane_at classes y = sym way ∙ sym (ready.lanes.same (record { unit = pass.victim; page = page }) copy.from y x unit owns owned) in
          subst (λ (l : Lane). wanted_in p o ≤ room_in p now.units l) lanes (omega (arith, room, enough, before, less, left));
    })

-- ---- a page skipped

pub skipped-ready : (s now : Relocation) (o : OwnerTable) (classes : List Class) (rg : ℕ) (from : Spot) (lane : Lane) (unit : ℕ) (x : Owner) → IsReady s o classes rg → IsCopying s o from → owner_at o from ≡ Some x → lane_at classes x ≡ lane → IsUsable s lane unit → SkipsPage s now o lane unit → IsReady now o classes rg
skipped-ready s now o classes rg from lane unit x ready h owned way is skips = how (nat_le (wanted_in skips.passes o) (room_in skips.passes now.units lane)) refl where
  same : (skips.passes.pass ≡ s.passes.pass) × (skips.passes.unit_pages ≡ s.passes.unit_pages)
  same = uses-pass s skips.passes now.units lane unit is skips.used

  targets : AreTargets skips.passes now.units rg
  targets = uses-targets s skips.passes now.units rg lane unit ready.targets is skips.used

  how : (b : Bool) → nat_le (wanted_in skips.passes o) (room_in skips.passes now.units lane) ≡ b → IsReady now o classes rg
  how true fits =
      let suffices : wanted_in skips.passes o ≤ room_in skips.passes now.units lane = leb-true _ _ fits in
      let left : now.passes ≡ skips.passes = skips.left ∙ ap (λ (b : Bool). if b then skips.passes else record skips.passes { pass = None }) fits in
      subst (λ (q : GroupPasses). IsReady (record { passes = q; units = now.units }) o classes rg) (sym left) (record {
        cut = cut-kept s.passes skips.passes s.units now.units o same.1 skips.used.page.cut ready.cut;
        victim = λ pass e. uses-other s skips.passes now.units rg lane unit pass.victim is skips.used (ready.victim pass (sym same.0 ∙ e));
        copied = λ pass page e. ready.copied pass page (sym same.0 ∙ e);
        targets = targets;
        live = uses-live s skips.passes now.units o lane unit ready.live is skips.used;
        lanes = ready.lanes;
        enough = λ pass page y e low owns.
            let victim : pass.victim ≡ from.unit = sym (ap (λ (z : Pass). z.victim) (same-pass (sym h.under_way ∙ sym same.0 ∙ e))) ∙ h.victim in
            let lanes : lane ≡ lane_at classes y = sym way ∙ sym (ready.lanes.same (record { unit = pass.victim; page = page }) from y x victim owns owned) in
            subst (λ (l : Lane). wanted_in skips.passes o ≤ room_in skips.passes now.units l) lanes suffices;
      })
  how false short =
      let left : now.passes ≡ record skips.passes { pass = None } = skips.left ∙ ap (λ (b : Bool). if b then skips.passes else record skips.passes { pass = None }) short in
      subst (λ (q : GroupPasses). IsReady (record { passes = q; units = now.units }) o classes rg) (sym left) (record {
        cut = cut-kept s.passes (record skips.passes { pass = None }) s.units now.units o same.1 skips.used.page.cut ready.cut;
        victim = λ pass e. absurd (never-some pass e);
        copied = λ pass page e. absurd (never-some pass e);
        targets = record { targets = targets.targets; apart = targets.apart };
        live = uses-live s skips.passes now.units o lane unit ready.live is skips.used;
        lanes = ready.lanes;
        enough = λ pass page y e. absurd (never-some pass e);
      })
