-- What goes round beside the workers may be handed to another thread where all that it goes round with may.
use mathlib.Core.List.{[], ◌∷◌}
use Prim.Native.Nat.{ℕ}
use mir.Syntax.{Sym, Ty}
use denote.Exit.{Kept}
use denote.RattleType.{RattleType}
use denote.Param.{param, arg}
use denote.Param.Send.{IsSend, IsSync, param_send, arg_send, recorded_send, struct_send, sendable}
use denote.Struct.Declared.{shape}
use denote.Struct.Tuple.{type_at, TupleAt}
use Rattle.std.proofs.Crossing.{crosses}
use Rattle.std.specs.contracts.sync.atomic.AtomicBool as AtomicBool

pub flag_sync : IsSync AtomicBool.the_row
flag_sync = search (crosses, sendable) depth 20

-- of six things that a closure captures
pub captures_send : (A B C D E F : RattleType) (i : ℕ) (name : Sym) (δ : Ty) (k : Kept) →
    IsSend A → IsSend B → IsSend C → IsSend D → IsSend E → IsSend F →
    IsSend (param i (arg δ k (TupleAt name (A ∷ B ∷ C ∷ D ∷ E ∷ F ∷ []))))
captures_send A B C D E F i name δ k a b c d e f =
    let T = type_at name (A ∷ B ∷ C ∷ D ∷ E ∷ F ∷ []) in
    param_send i _ (arg_send δ k (TupleAt name (A ∷ B ∷ C ∷ D ∷ E ∷ F ∷ [])) (recorded_send _ _ _ T.to_one (struct_send (shape T) (a, (b, (c, (d, (e, (f, tt)))))))))
