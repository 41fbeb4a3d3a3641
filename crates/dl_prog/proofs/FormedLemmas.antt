-- Formed procedures can be run.
use Rattle.std.proofs.Common.{◌≡◌, ◌≤◌, ℕ, zero, suc, true, List, [], ◌∷◌, Some, None, length, refl, ap, sym, subst, arith}
use Rattle.std.specs.Prelude.{Option, slice_get, unwrap_or}
use Rattle.std.specs.List.{AllByRecursion as Each}
use Rattle.dl_term.specs.declared.syntax.Term.{Term}
use Rattle.dl_term.specs.Measures.{IsNarrow}
use Rattle.dl_model.specs.declared.protocol.Tag.{Tag}
use Rattle.dl_model.specs.declared.protocol.Protocol.{Protocol}
use Rattle.dl_model.specs.declared.protocol.Instances.{Instances}
use Rattle.dl_model.specs.declared.program.Proc.{Proc}
use Rattle.dl_model.specs.declared.file.Decls.{Decls}
use Rattle.dl_model.specs.Block.{Block, Done, Sends, Awaits, Polls, Reads, Sets, Ifs, Whiles, Calls, block_of}
use Rattle.dl_model.specs.Lookup.{proc_at, no_proc, tag_at, no_tag, protocol_in, no_protocol}
use Rattle.dl_model.specs.Sorts.{has}
use Rattle.dl_model.specs.Scopes.{IsExpression, IsIndex}
use Rattle.dl_model.specs.Formed.{IsFormed, InstancesAreFormed, TagIsFormed, BlockIsFormed, proc_variables}
use Rattle.dl_prog.specs.Ready.{IsLocal, BlockCanRun, ProcsCanRun}

-- an item of a list of which each has a property
each-at : {X : Type 0} (P : X → Type 0) (xs : List X) (i : ℕ) (x : X) → Each P xs → slice_get xs i ≡ Some x → P x
each-at P [] i x h e = absurd (cc e)
each-at P (y ∷ ys) zero x h e = let same : y ≡ x = cc e in subst P same h.0
each-at P (y ∷ ys) (suc i) x h e = each-at P ys i x h.1 e

each-of : {X : Type 0} (P Q : X → Type 0) (xs : List X) → ((x : X) → P x → Q x) → Each P xs → Each Q xs
each-of P Q [] f h = tt
each-of P Q (x ∷ xs) f h = (f x h.0, each-of P Q xs f h.1)

-- a tag has at most 8 arguments
few-args : (inst : Instances) (label tag : ℕ) → InstancesAreFormed inst → length (tag_at inst label tag).args ≤ 8
few-args inst label tag formed = by_label (slice_get inst.of label)
  where
    by_tag : (protocol : Protocol) → Each (TagIsFormed protocol) protocol.tags → (found : Option Tag) → slice_get protocol.tags tag ≡ found → length (unwrap_or found no_tag).args ≤ 8
    by_tag protocol h (Some it) e = (each-at (TagIsFormed protocol) protocol.tags tag it h e).args.0
    by_tag protocol h None e = omega arith

    by_protocol : (number : ℕ) (found : Option Protocol) → slice_get inst.protocols number ≡ found →
        length (unwrap_or (slice_get (unwrap_or found no_protocol).tags tag) no_tag).args ≤ 8
    by_protocol number (Some protocol) e = by_tag protocol (formed.protocols number protocol e).tags (slice_get protocol.tags tag) refl
    by_protocol number None e = omega arith

    by_label : (found : Option ℕ) → length (unwrap_or (slice_get (protocol_in inst found).tags tag) no_tag).args ≤ 8
    by_label (Some number) = by_protocol number (slice_get inst.protocols number) refl
    by_label None = omega arith

index-narrow : (variables : List ℕ) (index : Option Term) → IsIndex (IsExpression variables) index → IsIndex IsNarrow index
index-narrow variables (Some index) h = h.1
index-narrow variables None h = tt

module _ (decls : Decls) (number : ℕ) (proc : Proc) (formed : InstancesAreFormed decls.inst) (few : (callee : ℕ) → length (proc_at decls.procs callee).params ≤ 8)
    (here : proc_at decls.procs number ≡ proc) where
  local-here : (target : ℕ) → has proc.locals target ≡ true → IsLocal decls.procs number target
  local-here target h = subst (λ (p : Proc). has p.locals target ≡ true) (sym here) h

  locals-here : (targets : List ℕ) → Each (λ target. has proc.locals target ≡ true) targets → Each (IsLocal decls.procs number) targets
  locals-here targets h = each-of (λ target. has proc.locals target ≡ true) (IsLocal decls.procs number) targets local-here h

  narrow-here : (terms : List Term) → Each (IsExpression (proc_variables proc)) terms → Each IsNarrow terms
  narrow-here terms h = each-of (IsExpression (proc_variables proc)) IsNarrow terms (λ term e. e.1) h

  pub block-runs : (block : Block) → BlockIsFormed decls number proc block → BlockCanRun decls.procs number block
  block-runs Done h = tt
  block-runs (Sends note label tag to args rest) h =
      ((h.3.1, narrow-here args h.4, subst (λ n. n ≤ 8) (sym h.2) (few-args decls.inst label tag formed)), block-runs rest h.5)
  block-runs (Awaits note label tag sender args rest) h = (locals-here (sender ∷ args) h.3.0, block-runs rest h.4)
  block-runs (Polls note got label tag sender args rest) h = (locals-here (got ∷ sender ∷ args) h.3.0, block-runs rest h.4)
  block-runs (Reads note into label field index rest) h = ((index-narrow (proc_variables proc) index h.2, (locals-here (into ∷ []) h.3.0).0), block-runs rest h.4)
  block-runs (Sets target value rest) h = (((locals-here (target ∷ []) h.0.0).0, h.1.1), block-runs rest h.2)
  block-runs (Ifs test left right rest) h = ((h.0.0.1, block-runs left h.1, block-runs right h.2), block-runs rest h.3)
  block-runs (Whiles test note body rest) h = ((h.0.0.1, block-runs body h.2), block-runs rest h.3)
  block-runs (Calls note frame into callee args rest) h =
      ((narrow-here args h.5, subst (λ n. n ≤ 8) (sym h.4) (few callee), (locals-here (into ∷ []) h.2.0).0, h.3, h.4), block-runs rest h.6)

few-params : (decls : Decls) (callee : ℕ) → IsFormed decls → length (proc_at decls.procs callee).params ≤ 8
few-params decls callee h = there (slice_get decls.procs callee) refl
  where
    there : (found : Option Proc) → slice_get decls.procs callee ≡ found → length (unwrap_or found no_proc).params ≤ 8
    there (Some it) e = (h.procs callee it e).params.0
    there None e = omega arith

pub formed-run : (decls : Decls) → IsFormed decls → ProcsCanRun decls.procs
formed-run decls h = record {
  each = λ number proc e.
      let it = h.procs number proc e in
      let here : proc_at decls.procs number ≡ proc = ap (λ (found : Option Proc). unwrap_or found no_proc) e in
      record {
        few_params = it.params.0;
        few_locals = it.few_locals;
        body = block-runs decls number proc h.inst (λ callee. few-params decls callee h) here (block_of proc.body) it.body;
        result = it.result.1;
      };
}
