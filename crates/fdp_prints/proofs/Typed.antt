-- What is read of a text is an entry that its print tells whole.
use Rattle.std.proofs.Common.{◌≡◌, inl, inr, ℕ, ◌^◌, ◌<◌, ◌≤◌, Bool, true, false, ◌&&◌, nat_le, List, [], ◌∷◌, take, drop, refl, ap, subst, arith, Option, Some, None, Result, Ok, Err}
use Rattle.std.specs.Prelude.{codes, bytes_eq, if◌then◌else◌}
use Rattle.std.specs.List.{AllByRecursion, before_first, after_first}
use Rattle.std.proofs.lemmas.Bool.Decides.{nat_tests}
use Rattle.fdp_base.specs.declared.command.Command.{Command}
use Rattle.fdp_base.specs.declared.config.DriveConfig.{DriveConfig}
use Rattle.fdp_base.specs.declared.entry.BlockName.{BlockName}
use Rattle.fdp_base.specs.declared.entry.Entry.{Entry}
use Rattle.fdp_base.specs.declared.entry.Entry.TheVariants as entries
use Rattle.fdp_base.specs.declared.entry.Spot.{Spot}
use Rattle.fdp_base.specs.declared.status.Status.{Status}
use Rattle.fdp_base.specs.Geometry.{IsBlockSize}
use Rattle.fdp_trace.specs.declared.fault.FaultKind.{FaultKind}
use Rattle.fdp_trace.specs.declared.fault.FaultKind.TheVariants as kinds
use Rattle.fdp_trace.specs.Demands.{Spells}
use Rattle.fdp_trace.specs.Reader.Commands.{command_of, field_8, field_16, field_32, field_64}
use Rattle.fdp_trace.specs.Reader.FrontOf.{is_line_feed}
use Rattle.fdp_trace.specs.Reader.NumberOf.{number_of}
use Rattle.fdp_trace.specs.Reader.Reading.{◌>>=◌, bounded, field, within}
use Rattle.fdp_trace.specs.Words.{words_of}
use Rattle.fdp_trace.proofs.Meaning.{ComesTo, comes}
use Rattle.fdp_trace.proofs.Parts.{ranges_found}
use Rattle.fdp_trace.proofs.ReadBack.{own_spells}
use Rattle.fdp_trace.proofs.SpelledLines.{line_is_spelled}
use Rattle.fdp_prints.specs.Told.{IsFramed, IsGiven, IsSpelled, IsTold, IsToldAt, IsToldName, IsToldSpot}
use Rattle.fdp_prints.specs.Reader.{Words, begins_entry, command_in, copied_in, dword_field, entry_in, first_entry, flag, hex_number, hex_within, host_in, is_colon, moved_in, name_in, names_in, placed_entry, placed_in, shut_in, spot_field, started_in, status_field, status_in, taken, told_bytes, with_bytes}
use Rattle.fdp_prints.proofs.Sizes.{reply-sized}

-- a step that gave something: what it was made of gave something
pub bind-ok : {A B : Type 0} (r : Result A FaultKind) (f : A → Result B FaultKind) (y : B) → (r >>= f) ≡ Ok y → (x : A) × (r ≡ Ok x) × (f x ≡ Ok y)
bind-ok (Ok x) f y e = (x, refl, e)
bind-ok (Err kind) f y e = absurd cc

pub ok-one : {A : Type 0} (x y : A) → ◌≡◌ {A = Result A FaultKind} (Ok x) (Ok y) → x ≡ y
ok-one x y e = cc

-- what some line of a trace spells is printed as a line
pub spelled_of : (words : Words) (command : Command) → Spells words command → IsSpelled command
spelled_of words command (line, row, fits) =
    let within = ranges_found line words fits in
    record { line = line_is_spelled line command row within; says = own_spells line command row within }

-- ---- numbers

by-test : (b : Bool) (m n high : ℕ) → (b ≡ true → m ≤ high) → ◌≡◌ {A = Result ℕ FaultKind} (if b then Ok m else Err kinds.Range) (Ok n) → n ≤ high
by-test true m n high le e = let same = ok-one m n e in omega (arith, le refl, same)
by-test false m n high le e = absurd cc

bounded-told : (high n : ℕ) (o : Option ℕ) → bounded 0 high o ≡ Ok n → n ≤ high
bounded-told high n None e = absurd cc
bounded-told high n (Some m) e = by-test (nat_le 0 m && nat_le m high) m n high (test m high) e where
  test : (m high : ℕ) → (nat_le 0 m && nat_le m high) ≡ true → m ≤ high
  test m high e = grind (arith, nat_tests)

within-told : (high n : ℕ) (word : List ℕ) → within 0 high word ≡ Ok n → n ≤ high
within-told high n word e = bounded-told high n (number_of word) e

pub field-told : (high : ℕ) (ws : Words) (x : ℕ × Words) → field 0 high ws ≡ Ok x → x.0 ≤ high
unfolding field
field-told high [] x e = absurd cc
field-told high (word ∷ ws) x e =
    let b = bind-ok (within 0 high word) (λ n. Ok (n, ws)) x e in
    let same = ok-one (b.0, ws) x b.2 in
    let first : b.0 ≡ x.0 = ap (λ (y : ℕ × Words). y.0) same in
    omega (arith, within-told high b.0 word b.1, first)

hex-told : (high n : ℕ) (digits : List ℕ) → hex_within high digits ≡ Ok n → n ≤ high
unfolding hex_within
hex-told high n digits e = by-test (nat_le (hex_number digits) high) (hex_number digits) n high (test (hex_number digits) high) e where
  test : (m high : ℕ) → nat_le m high ≡ true → m ≤ high
  test m high e = grind (arith, nat_tests)

dword-told : (ws : Words) (x : ℕ × Words) → dword_field ws ≡ Ok x → x.0 < 2 ^ 32
unfolding dword_field
dword-told [] x e = absurd cc
dword-told (word ∷ ws) x e =
    let b = bind-ok (hex_within 4294967295 word) (λ n. Ok (n, ws)) x e in
    let first : b.0 ≡ x.0 = ap (λ (y : ℕ × Words). y.0) (ok-one (b.0, ws) x b.2) in
    omega (arith, hex-told 4294967295 b.0 word b.1, first)

-- ---- statuses, pages, names

status-told : (word : List ℕ) (s : Status) → status_in word ≡ Ok s → (s.sct < 2 ^ 4) × (s.sc < 2 ^ 8)
unfolding status_in
status-told word s e =
    let a = bind-ok (hex_within 15 (take 1 word)) _ s e in
    let b = bind-ok (hex_within 255 (drop 2 word)) _ s a.2 in
    let same = ok-one (record { sct = a.0; sc = b.0 }) s b.2 in
    let first : a.0 ≡ s.sct = ap (λ (x : Status). x.sct) same in
    let second : b.0 ≡ s.sc = ap (λ (x : Status). x.sc) same in
    (omega (arith, hex-told 15 a.0 (take 1 word) a.1, first), omega (arith, hex-told 255 b.0 (drop 2 word) b.1, second))

status-field-told : (ws : Words) (x : Status × Words) → status_field ws ≡ Ok x → (x.0.sct < 2 ^ 4) × (x.0.sc < 2 ^ 8)
unfolding status_field
status-field-told [] x e = absurd cc
status-field-told (word ∷ ws) x e =
    let b = bind-ok (status_in word) (λ s. Ok (s, ws)) x e in
    let first : b.0 ≡ x.0 = ap (λ (y : Status × Words). y.0) (ok-one (b.0, ws) x b.2) in
    subst (λ (s : Status). (s.sct < 2 ^ 4) × (s.sc < 2 ^ 8)) first (status-told word b.0 b.1)

spot-told : (ws : Words) (x : Spot × Words) → spot_field ws ≡ Ok x → IsToldSpot x.0
unfolding spot_field
spot-told ws x e =
    let u = bind-ok (field_32 ws) _ x e in
    let p = bind-ok (field_32 u.0.1) _ x u.2 in
    let first : record { unit = u.0.0; page = p.0.0 } ≡ x.0 = ap (λ (y : Spot × Words). y.0) (ok-one (record { unit = u.0.0; page = p.0.0 }, p.0.1) x p.2) in
    subst IsToldSpot first (record { unit = omega (arith, field-told 4294967295 ws u.0 u.1); page = omega (arith, field-told 4294967295 u.0.1 p.0 p.1) })

name-told : (word : List ℕ) (b : BlockName) → name_in word ≡ Ok b → IsToldName b
unfolding name_in
name-told word b e =
    let n = bind-ok (within 0 4294967295 (before_first is_colon word)) _ b e in
    let l = bind-ok (within 0 18446744073709551615 (after_first is_colon word)) _ b n.2 in
    subst IsToldName (ok-one (record { nsid = n.0; lba = l.0 }) b l.2) (record {
      nsid = omega (arith, within-told 4294967295 n.0 (before_first is_colon word) n.1);
      lba = omega (arith, within-told 18446744073709551615 l.0 (after_first is_colon word) l.1);
    })

names-told : (ws : Words) (bs : List BlockName) → names_in ws ≡ Ok bs → AllByRecursion IsToldName bs
unfolding names_in
names-told [] bs e = subst (AllByRecursion IsToldName) (ok-one [] bs e) tt
names-told (word ∷ ws) bs e =
    let n = bind-ok (name_in word) _ bs e in
    let r = bind-ok (names_in ws) _ bs n.2 in
    subst (AllByRecursion IsToldName) (ok-one (n.0 ∷ r.0) bs r.2) (name-told word n.0 n.1, names-told ws r.0 r.1)

-- ---- commands

by-command : (ws : Words) (command : Command) (r : Result Command FaultKind) → ComesTo ws r → r ≡ Ok command → IsSpelled command
by-command ws command (Ok found) to e = subst IsSpelled (ok-one found command e) (spelled_of ws found to)
by-command ws command (Err kind) to e = absurd cc

line-told : (ws : Words) (command : Command) → command_of ws ≡ Ok command → IsSpelled command
line-told ws command e = by-command ws command (command_of ws) (comes ws) e

-- what is given, a frame gives
abbrev pub IsFrameGiven : ℕ → Option Command → Type 0
IsFrameGiven block None = Unit {0}
IsFrameGiven block (Some command) = IsFramed block command

taken-told : (block : ℕ) (given : Option Command) (command : Command) → IsFrameGiven block given → taken given ≡ Ok command → IsGiven block command
taken-told block None command frame e = absurd cc
taken-told block (Some found) command frame e = inr (subst (IsFramed block) (ok-one found command e) frame)

command-told : (block : ℕ) (given : Option Command) (ws : Words) (command : Command) → IsFrameGiven block given → command_in given ws ≡ Ok command → IsGiven block command
unfolding command_in
command-told block given ws command frame = by (begins_entry ws) where
  by : (b : Bool) → (if b then taken given else command_of ws) ≡ Ok command → IsGiven block command
  by true e = taken-told block given command frame e
  by false e = inl (line-told ws command e)

-- ---- entries

-- an entry with the bytes that lines behind it tell is told whole
abbrev IsReadFrom : DriveConfig → List ℕ → Entry → Type 0
IsReadFrom c text e = IsTold c (with_bytes (told_bytes c e text) e)

host-told : (given : Option Command) (c : DriveConfig) (text : List ℕ) (ws : Words) (e : Entry) → IsFrameGiven c.block given → IsBlockSize c.block → host_in given ws ≡ Ok e → IsReadFrom c text e
unfolding host_in
host-told given c text ws e frame is eq =
    let q = bind-ok (field_8 ws) _ e eq in
    let n = bind-ok (field_16 q.0.1) _ e q.2 in
    let a = bind-ok (flag n.0.1) _ e n.2 in
    let s = bind-ok (status_field a.0.1) _ e a.2 in
    let d = bind-ok (dword_field s.0.1) _ e s.2 in
    let m = bind-ok (field_64 d.0.1) _ e d.2 in
    let k = bind-ok (command_in given m.0.1) _ e m.2 in
    let status = status-field-told a.0.1 s.0 s.1 in
    let told = reply-sized c k.0 s.0.0 text is in
    subst (IsReadFrom c text) (ok-one (entries.Host (record { queue = q.0.0; number = n.0.0; command = k.0; reply = record { status = s.0.0; dw0 = d.0.0; bytes = []; applied = a.0.0 }; moment = m.0.0 })) e k.2) (record {
      queue = omega (arith, field-told 255 ws q.0 q.1);
      number = omega (arith, field-told 65535 q.0.1 n.0 n.1);
      moment = omega (arith, field-told 18446744073709551615 d.0.1 m.0 m.1);
      command = command-told c.block given m.0.1 k.0 frame k.1;
      reply = record { sct = status.0; sc = status.1; dw0 = dword-told s.0.1 d.0 d.1; bytes = told.bytes_are; size = told.count };
    })

started-told : (given : Option Command) (ws : Words) (e : Entry) → started_in given ws ≡ Ok e → (c : DriveConfig) → IsFrameGiven c.block given → (text : List ℕ) → IsReadFrom c text e
unfolding started_in
started-told given ws e eq c frame text =
    let q = bind-ok (field_8 ws) _ e eq in
    let n = bind-ok (field_16 q.0.1) _ e q.2 in
    let g = bind-ok (field_16 n.0.1) _ e n.2 in
    let r = bind-ok (field_8 g.0.1) _ e g.2 in
    let v = bind-ok (flag r.0.1) _ e r.2 in
    let k = bind-ok (command_in given v.0.1) _ e v.2 in
    subst (IsReadFrom c text) (ok-one (entries.Started (record { queue = q.0.0; number = n.0.0; command = k.0; rg = g.0.0; ruh = r.0.0; pid_valid = v.0.0 })) e k.2) (record {
      queue = omega (arith, field-told 255 ws q.0 q.1);
      number = omega (arith, field-told 65535 q.0.1 n.0 n.1);
      rg = omega (arith, field-told 65535 n.0.1 g.0 g.1);
      ruh = omega (arith, field-told 255 g.0.1 r.0 r.1);
      command = command-told c.block given v.0.1 k.0 frame k.1;
    })

page-told : (ws : Words) (e : Entry) → placed_in ws ≡ Ok e → (c : DriveConfig) (text : List ℕ) → IsReadFrom c text e
unfolding placed_in
page-told ws e eq c text =
    let t = bind-ok (field_64 ws) _ e eq in
    let i = bind-ok (field_32 t.0.1) _ e t.2 in
    let u = bind-ok (field_32 i.0.1) _ e i.2 in
    let p = bind-ok (field_32 u.0.1) _ e u.2 in
    subst (IsReadFrom c text) (ok-one (entries.Placed (record { ticket = t.0.0; index = i.0.0; unit = u.0.0; page = p.0.0 })) e p.2) (record {
      ticket = omega (arith, field-told 18446744073709551615 ws t.0 t.1);
      index = omega (arith, field-told 4294967295 t.0.1 i.0 i.1);
      unit = omega (arith, field-told 4294967295 i.0.1 u.0 u.1);
      page = omega (arith, field-told 4294967295 u.0.1 p.0 p.1);
    })

copy-told : (ws : Words) (e : Entry) → copied_in ws ≡ Ok e → (c : DriveConfig) (text : List ℕ) → IsReadFrom c text e
unfolding copied_in
copy-told ws e eq c text =
    let f = bind-ok (spot_field ws) _ e eq in
    let t = bind-ok (spot_field f.0.1) _ e f.2 in
    subst (IsReadFrom c text) (ok-one (entries.Copied (record { from = f.0.0; to = t.0.0 })) e t.2) (record { from = spot-told ws f.0 f.1; to = spot-told f.0.1 t.0 t.1 })

move-told : (ws : Words) (e : Entry) → moved_in ws ≡ Ok e → (c : DriveConfig) (text : List ℕ) → IsReadFrom c text e
unfolding moved_in
move-told ws e eq c text =
    let g = bind-ok (field_16 ws) _ e eq in
    let b = bind-ok (names_in g.0.1) _ e g.2 in
    subst (IsReadFrom c text) (ok-one (entries.Moved (record { rg = g.0.0; blocks = b.0 })) e b.2) (record { rg = omega (arith, field-told 65535 ws g.0 g.1); blocks = names-told g.0.1 b.0 b.1 })

shut-told : (ws : Words) (e : Entry) → shut_in ws ≡ Ok e → (c : DriveConfig) (text : List ℕ) → IsReadFrom c text e
unfolding shut_in
shut-told ws e eq c text =
    let g = bind-ok (field_16 ws) _ e eq in
    let r = bind-ok (field_8 g.0.1) _ e g.2 in
    subst (IsReadFrom c text) (ok-one (entries.Shut (record { rg = g.0.0; ruh = r.0.0 })) e r.2) (omega (arith, field-told 65535 ws g.0 g.1), omega (arith, field-told 255 g.0.1 r.0 r.1))

unit-told : (make : ℕ → Entry) (ws : Words) (e : Entry) → (c : DriveConfig) (text : List ℕ) → ((n : ℕ) → n < 2 ^ 32 → IsReadFrom c text (make n)) → (field_32 ws >>= λ unit. Ok (make unit.0)) ≡ Ok e → IsReadFrom c text e
unit-told make ws e c text told eq =
    let u = bind-ok (field_32 ws) (λ unit. Ok (make unit.0)) e eq in
    subst (IsReadFrom c text) (ok-one (make u.0.0) e u.2) (told u.0.0 (omega (arith, field-told 4294967295 ws u.0 u.1)))

worn-told : (ws : Words) (e : Entry) → (field_16 ws >>= λ rg. Ok (entries.Worn (record { rg = rg.0 }))) ≡ Ok e → (c : DriveConfig) (text : List ℕ) → IsReadFrom c text e
worn-told ws e eq c text =
    let g = bind-ok (field_16 ws) (λ rg. Ok (entries.Worn (record { rg = rg.0 }))) e eq in
    subst (IsReadFrom c text) (ok-one (entries.Worn (record { rg = g.0.0 })) e g.2) (omega (arith, field-told 65535 ws g.0 g.1))

-- what is read by one of two ways
either : (P : Entry → Type 0) (b : Bool) (x y : Result Entry FaultKind) (e : Entry) → (x ≡ Ok e → P e) → (y ≡ Ok e → P e) → (if b then x else y) ≡ Ok e → P e
either P true x y e first second eq = first eq
either P false x y e first second eq = second eq

entry-told : (given : Option Command) (c : DriveConfig) (text : List ℕ) (ws : Words) (e : Entry) → IsFrameGiven c.block given → IsBlockSize c.block → entry_in given ws ≡ Ok e → IsReadFrom c text e
unfolding entry_in
entry-told given c text [] e frame is eq = absurd cc
entry-told given c text (word ∷ ws) e frame is eq =
    let P = IsReadFrom c text in
    either P (bytes_eq word (codes "host")) _ _ e (host-told given c text ws e frame is)
    (either P (bytes_eq word (codes "started")) _ _ e (λ x. started-told given ws e x c frame text)
    (either P (bytes_eq word (codes "placed")) _ _ e (λ x. page-told ws e x c text)
    (either P (bytes_eq word (codes "copied")) _ _ e (λ x. copy-told ws e x c text)
    (either P (bytes_eq word (codes "moved")) _ _ e (λ x. move-told ws e x c text)
    (either P (bytes_eq word (codes "erased")) _ _ e (unit-told (λ n. entries.Erased (record { unit = n })) ws e c text (λ n lt. lt))
    (either P (bytes_eq word (codes "retired")) _ _ e (unit-told (λ n. entries.Retired (record { unit = n })) ws e c text (λ n lt. lt))
    (either P (bytes_eq word (codes "aside")) _ _ e (unit-told (λ n. entries.Aside (record { unit = n })) ws e c text (λ n lt. lt))
    (either P (bytes_eq word (codes "shut")) _ _ e (λ x. shut-told ws e x c text)
    (either P (bytes_eq word (codes "worn")) _ _ e (λ x. worn-told ws e x c text)
    (either P (bytes_eq word (codes "reopened")) _ _ e (λ x. subst P (ok-one entries.Reopened e x) tt) (λ x. absurd cc))))))))))) eq

-- what is read of a text is told whole, whatever stands behind its first line
pub first-told : (given : Option Command) (c : DriveConfig) (text : List ℕ) (x : ℕ × Entry) → IsFrameGiven c.block given → IsBlockSize c.block → first_entry given c text ≡ Ok x → IsToldAt c x
unfolding first_entry placed_entry
first-told given c text x frame is eq =
    let ws = words_of (before_first is_line_feed text) in
    let behind = after_first is_line_feed text in
    let p = bind-ok (placed_entry given ws) (λ x. Ok (x.0, with_bytes (told_bytes c x.1 behind) x.1)) x eq in
    let n = bind-ok (field_64 ws) _ p.0 p.1 in
    let e = bind-ok (entry_in given n.0.1) _ p.0 n.2 in
    let placed = ok-one (n.0.0, e.0) p.0 e.2 in
    let whole = ok-one (p.0.0, with_bytes (told_bytes c p.0.1 behind) p.0.1) x p.2 in
    let told : IsToldAt c (n.0.0, with_bytes (told_bytes c e.0 behind) e.0) = (omega (arith, field-told 18446744073709551615 ws n.0 n.1), entry-told given c behind n.0.1 e.0 frame is e.1) in
    subst (IsToldAt c) whole (subst (λ (y : ℕ × Entry). IsToldAt c (y.0, with_bytes (told_bytes c y.1 behind) y.1)) placed told)
