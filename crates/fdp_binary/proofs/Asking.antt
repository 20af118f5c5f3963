-- The kind that an entry asks for is found, and there is one.
use Rattle.std.proofs.Common.{◌≡◌, ℕ, Bool, true, false, eqb, ◌==◌, Option, Some, None, refl, sym, subst, ap, ◌∙◌, inl, inr}
use Rattle.std.specs.Prelude.{if◌then◌else◌}
use Rattle.std.proofs.lemmas.Bool.{cases_Bool, eqb-true}
use Rattle.fdp_layouts.specs.declared.submission.Sqe.{Sqe}
use Rattle.fdp_binary.specs.declared.asked.Asked.{Asked}
use Rattle.fdp_binary.specs.declared.asked.Asked.TheVariants as kinds
use Rattle.fdp_binary.specs.Front.{flags_byte}
use Rattle.fdp_binary.specs.Fields.{feature_in, select_in}
use Rattle.fdp_binary.specs.Asked.{Asks, IsAsked}
use Rattle.fdp_binary.specs.Lookup.{admin_kind, get_kind, io_kind, kind_in, kind_of, management_kind, set_kind}

-- ---- what is asked is found

kind-at : (a b : Bool) (f g o p x y s t : ℕ) → a ≡ b → f ≡ g → o ≡ p → x ≡ y → s ≡ t → kind_of a f o x s ≡ kind_of b g p y t
kind-at a b f g o p x y s t ea ef eo ex es = λ i. kind_of (ea i) (ef i) (eo i) (ex i) (es i)

pub asks-found : (admin : Bool) (e : Sqe) (kind : Asked) → Asks admin e kind → kind_in admin e ≡ Some kind
asks-found admin e kinds.Write h = kind-at admin false _ _ _ _ (feature_in e) _ (select_in e) _ h.0 h.1 h.2 refl refl
asks-found admin e kinds.Read h = kind-at admin false _ _ _ _ (feature_in e) _ (select_in e) _ h.0 h.1 h.2 refl refl
asks-found admin e kinds.Zero h = kind-at admin false _ _ _ _ (feature_in e) _ (select_in e) _ h.0 h.1 h.2 refl refl
asks-found admin e kinds.Dealloc h = kind-at admin false _ _ _ _ (feature_in e) _ (select_in e) _ h.0 h.1 h.2 refl refl
asks-found admin e kinds.Flush h = kind-at admin false _ _ _ _ (feature_in e) _ (select_in e) _ h.0 h.1 h.2 refl refl
asks-found admin e kinds.Status h = kind-at admin false _ _ _ _ (feature_in e) _ (select_in e) _ h.0 h.1 h.2 refl refl
asks-found admin e kinds.Update h = kind-at admin false _ _ _ _ (feature_in e) _ (select_in e) _ h.0 h.1 h.2 refl refl
asks-found admin e kinds.Log h = kind-at admin true _ _ _ _ (feature_in e) _ (select_in e) _ h.0 h.1 h.2 refl refl
asks-found admin e kinds.SetFdp h = kind-at admin true _ _ _ _ _ _ (select_in e) _ h.0.0 h.0.1 h.0.2 h.1 refl
asks-found admin e kinds.GetFdp h = kind-at admin true _ _ _ _ _ _ (select_in e) _ h.0.0 h.0.1 h.0.2 h.1 refl
asks-found admin e kinds.SetEvents h = kind-at admin true _ _ _ _ _ _ (select_in e) _ h.0.0 h.0.1 h.0.2 h.1 refl
asks-found admin e kinds.Create h = kind-at admin true _ _ _ _ (feature_in e) _ _ _ h.0.0 h.0.1 h.0.2 refl h.1
asks-found admin e kinds.Delete h = kind-at admin true _ _ _ _ (feature_in e) _ _ _ h.0.0 h.0.1 h.0.2 refl h.1

pub one_kind : (admin : Bool) (e : Sqe) (j k : Asked) → Asks admin e j → Asks admin e k → j ≡ k
one_kind admin e j k hj hk = let same : Some j ≡ Some k = sym (asks-found admin e j hj) ∙ asks-found admin e k hk in cc

-- ---- what is found is asked

-- a test that is passed, or one of those behind it
tested : (P : Asked → Type 0) (n c : ℕ) (hit rest : Option Asked) (kind : Asked) → (n ≡ c → hit ≡ Some kind → P kind) → (rest ≡ Some kind → P kind) → (if n == c then hit else rest) ≡ Some kind → P kind
tested P n c hit rest kind here there e =
    elim (cases_Bool (eqb n c)) [
      | inl hit-is ↦ here (eqb-true n c hit-is) (rw hit-is at e)
      | inr miss ↦ there (rw miss at e)
    ]

-- a test that is passed by one kind
passed : (P : Asked → Type 0) (n c : ℕ) (it : Asked) (rest : Option Asked) (kind : Asked) → (n ≡ c → P it) → (rest ≡ Some kind → P kind) → (if n == c then Some it else rest) ≡ Some kind → P kind
passed P n c it rest kind here there e = tested P n c (Some it) rest kind (λ same is. let k : it ≡ kind = cc in subst P k (here same)) there e

nothing : (P : Asked → Type 0) (kind : Asked) → None ≡ Some kind → P kind
nothing P kind e = absurd cc

io-asks : (e : Sqe) (kind : Asked) → flags_byte e.flags ≡ 0 → io_kind e.opcode ≡ Some kind → Asks false e kind
io-asks e kind plain =
    let P = λ (k : Asked). Asks false e k in
    passed P e.opcode 1 kinds.Write _ kind (λ h. (refl, plain, h))
    (passed P e.opcode 2 kinds.Read _ kind (λ h. (refl, plain, h))
    (passed P e.opcode 8 kinds.Zero _ kind (λ h. (refl, plain, h))
    (passed P e.opcode 9 kinds.Dealloc _ kind (λ h. (refl, plain, h))
    (passed P e.opcode 0 kinds.Flush _ kind (λ h. (refl, plain, h))
    (passed P e.opcode 0x12 kinds.Status _ kind (λ h. (refl, plain, h))
    (passed P e.opcode 0x1d kinds.Update _ kind (λ h. (refl, plain, h)) (nothing P kind)))))))

admin-asks : (e : Sqe) (kind : Asked) → flags_byte e.flags ≡ 0 → admin_kind e.opcode (feature_in e) (select_in e) ≡ Some kind → Asks true e kind
admin-asks e kind plain =
    let P = λ (k : Asked). Asks true e k in
    let f = feature_in e in
    let s = select_in e in
    passed P e.opcode 2 kinds.Log _ kind (λ h. (refl, plain, h))
    (tested P e.opcode 9 (set_kind f) _ kind (λ h. passed P f 0x1d kinds.SetFdp _ kind (λ g. ((refl, plain, h), g)) (passed P f 0x1e kinds.SetEvents _ kind (λ g. ((refl, plain, h), g)) (nothing P kind)))
    (tested P e.opcode 0x0a (get_kind f) _ kind (λ h. passed P f 0x1d kinds.GetFdp _ kind (λ g. ((refl, plain, h), g)) (nothing P kind))
    (tested P e.opcode 0x0d (management_kind s) _ kind (λ h. passed P s 0 kinds.Create _ kind (λ g. ((refl, plain, h), g)) (passed P s 1 kinds.Delete _ kind (λ g. ((refl, plain, h), g)) (nothing P kind))) (nothing P kind))))

by-queue : (admin : Bool) (e : Sqe) (kind : Asked) → flags_byte e.flags ≡ 0 → (if admin then admin_kind e.opcode (feature_in e) (select_in e) else io_kind e.opcode) ≡ Some kind → Asks admin e kind
by-queue true e kind plain h = admin-asks e kind plain h
by-queue false e kind plain h = io-asks e kind plain h

pub found-asks : (admin : Bool) (e : Sqe) (kind : Asked) → kind_in admin e ≡ Some kind → Asks admin e kind
found-asks admin e kind =
    let P = λ (k : Asked). Asks admin e k in
    tested P (flags_byte e.flags) 0 (if admin then admin_kind e.opcode (feature_in e) (select_in e) else io_kind e.opcode) None kind (λ plain h. by-queue admin e kind plain h) (nothing P kind)

is-asked : (admin : Bool) (e : Sqe) (asked : Option Asked) → kind_in admin e ≡ asked → IsAsked admin e asked
is-asked admin e None found = λ kind h. let is : Some kind ≡ None = sym (asks-found admin e kind h) ∙ found in absurd cc
is-asked admin e (Some kind) found = found-asks admin e kind found

pub asked-is : (admin : Bool) (e : Sqe) (asked : Option Asked) → asked ≡ kind_in admin e → IsAsked admin e asked
asked-is admin e asked found = is-asked admin e asked (sym found)

-- a kind is asked for, or none: which, is one
pub one_asked : (admin : Bool) (e : Sqe) (a b : Option Asked) → IsAsked admin e a → IsAsked admin e b → a ≡ b
one_asked admin e None None ha hb = refl
one_asked admin e None (Some k) ha hb = absurd (ha k hb)
one_asked admin e (Some j) None ha hb = absurd (hb j ha)
one_asked admin e (Some j) (Some k) ha hb = ap Some (one_kind admin e j k ha hb)
