use Rattle.std.proofs.Common.{◌≡◌, ℕ, ◌≤◌, List, [], ◌∷◌, ◌++◌, length, sym, ap, ◌∙◌, arith}
use Rattle.dl_laws.proofs.Behind.{one_frame}
use Rattle.dl_laws.proofs.cut.add_frames.Goals as goal

pub returns-then-first_len-len : goal.returns-then-first_len-len
returns-then-first_len-len c parts tell is =
    let same : c.deref.result.now ≡ c.args.bytes.items = c.deref.ensures.value in
    let size : length c.deref.result.now ≡ length c.args.bytes.items = ap (λ (xs : List ℕ). length xs) same in
    let least : 4 ≤ length c.deref.result.now = omega (arith, c.if-len-ge-LEAST_LEN.true, c.len.ensures, size, c.args.bytes.ok.0) in
    let all : c.first_len.result ≡ length c.deref.result.now = omega (arith, c.if-first_len-len.true, c.len-then-len-ge-LEAST_LEN.ensures, size, c.args.bytes.ok.0) in
    c.in_ok-push.ensures.items ∙ ap (λ (f : List ℕ). c.args.frames.now.items ++ f ∷ []) (c.over.ensures ∙ sym same)
    ∙ one_frame c.deref.result.now c.first_len.result c.args.frames.now.items least all c.first_len.ensures.value parts tell (same ∙ is)
