-- The variables of a procedure are bound nowhere in its file.
use Rattle.std.proofs.Common.{◌≡◌, ℕ, zero, suc, true, false, Option, Some, None, List, [], ◌∷◌, ◌++◌, slice_get, unwrap_or, refl, sym, subst}
use Rattle.std.specs.List.{flat_map}
use Rattle.dl_term.specs.declared.syntax.Formula.{True}
use Rattle.dl_model.specs.declared.protocol.Transition.{Transition}
use Rattle.dl_model.specs.declared.protocol.Tag.{Tag}
use Rattle.dl_model.specs.declared.protocol.Protocol.{Protocol}
use Rattle.dl_model.specs.declared.protocol.Hook.{Hook}
use Rattle.dl_model.specs.declared.program.Proc.{Proc}
use Rattle.dl_model.specs.declared.file.Invariant.{Invariant}
use Rattle.dl_model.specs.declared.file.Decls.{Decls}
use Rattle.dl_model.specs.Block.{block_of}
use Rattle.dl_model.specs.Sorts.{has}
use Rattle.dl_model.specs.Lookup.{protocol_in, protocol_at, no_protocol, no_tag, tag_at, never, receive_of, hook_at, arg_names}
use Rattle.dl_model.specs.Spoken.{bound_names}
use Rattle.dl_model.specs.Formed.{tag_bound, transition_bound, coherence_bound, block_bound, file_bound, file_variables, IsFormed}
use Rattle.dl_model.proofs.Small.{lacks-front, lacks-back}
use Rattle.dl_inv.proofs.Lists.{each-at, each-get, each-found, has-front, has-back, lacks-each, true-false, not-true}

-- a name that one of the lists has, their join has
has-flat : {X : Type 0} (f : X → List ℕ) (xs : List X) (n : ℕ) (x : X) (y : ℕ) → slice_get xs n ≡ Some x → has (f x) y ≡ true → has (flat_map f xs) y ≡ true
has-flat f [] n x y e h = cc
has-flat f (z ∷ zs) zero x y e h = has-front (f z) (flat_map f zs) y (subst (λ (w : _). has (f w) y ≡ true) (sym (some-is z x e)) h)
  where
    some-is : {X : Type 0} (a b : X) → Some a ≡ Some b → a ≡ b
    some-is a b e = cc
has-flat f (z ∷ zs) (suc n) x y e h = has-back (f z) (flat_map f zs) y (has-flat f zs n x y e h)

module _ (d : Decls) (formed : IsFormed d) where
  -- a variable of the file is bound nowhere in it
  pub variable-free : (y : ℕ) → has (file_variables d) y ≡ true → has (file_bound d) y ≡ false
  variable-free y there = not-true (has (file_bound d) y) (λ bound. true-false (has (file_variables d) y) there (each-at (λ name. has (file_variables d) name ≡ false) (file_bound d) y formed.apart bound))

  -- a parameter or local of a procedure is a variable of the file
  pub own-free : (number : ℕ) (proc : Proc) (y : ℕ) → slice_get d.procs number ≡ Some proc → has (arg_names proc.params ++ proc.locals) y ≡ true → has (file_bound d) y ≡ false
  own-free number proc y e there =
      let of_tags = flat_map (λ (protocol : Protocol). flat_map (λ (tag : Tag). arg_names tag.args) protocol.tags) d.inst.protocols in
      let of_hooks = flat_map (λ (hook : Hook). hook.args) d.hooks in
      let of_procs = flat_map (λ (p : Proc). arg_names p.params ++ p.locals) d.procs in
      variable-free y (has-back of_tags (of_hooks ++ of_procs) y (has-back of_hooks of_procs y (has-flat (λ (p : Proc). arg_names p.params ++ p.locals) d.procs number proc y e there)))

  module _ (y : ℕ) (free : has (file_bound d) y ≡ false) where
    abbrev protocol_bound : Protocol → List ℕ
    protocol_bound protocol = flat_map tag_bound protocol.tags ++ coherence_bound protocol.coherence

    abbrev of_protocols : List ℕ
    of_protocols = flat_map protocol_bound d.inst.protocols

    abbrev of_hooks : List ℕ
    of_hooks = flat_map (λ (hook : Hook). bound_names hook.formula) d.hooks

    abbrev of_invariants : List ℕ
    of_invariants = flat_map (λ (invariant : Invariant). bound_names invariant.formula) d.invariants

    abbrev proc_bound : Proc → List ℕ
    proc_bound proc = bound_names proc.pre ++ (bound_names proc.post ++ block_bound (block_of proc.body))

    abbrev of_procs : List ℕ
    of_procs = flat_map proc_bound d.procs

    after-protocols : has (of_hooks ++ (of_invariants ++ of_procs)) y ≡ false
    after-protocols = lacks-back of_protocols (of_hooks ++ (of_invariants ++ of_procs)) y free

    pub hook-free : (hook : ℕ) → has (bound_names (hook_at d hook).formula) y ≡ false
    hook-free hook = each-get (λ (h : Hook). has (bound_names h.formula) y ≡ false) d.hooks hook (record { sym = 0; core = 0; client = 0; tag = 0; args = []; formula = True }) refl
        (lacks-each (λ (hook : Hook). bound_names hook.formula) d.hooks y (lacks-front of_hooks (of_invariants ++ of_procs) y after-protocols))

    proc-free : (number : ℕ) (proc : Proc) → slice_get d.procs number ≡ Some proc → has (proc_bound proc) y ≡ false
    proc-free number proc e = each-found (λ (p : Proc). has (proc_bound p) y ≡ false) d.procs number proc
        (lacks-each proc_bound d.procs y (lacks-back of_invariants of_procs y (lacks-back of_hooks (of_invariants ++ of_procs) y after-protocols))) e

    pub pre-free : (number : ℕ) (proc : Proc) → slice_get d.procs number ≡ Some proc → has (bound_names proc.pre) y ≡ false
    pre-free number proc e = lacks-front (bound_names proc.pre) (bound_names proc.post ++ block_bound (block_of proc.body)) y (proc-free number proc e)

    pub post-free : (number : ℕ) (proc : Proc) → slice_get d.procs number ≡ Some proc → has (bound_names proc.post) y ≡ false
    post-free number proc e = lacks-front (bound_names proc.post) (block_bound (block_of proc.body)) y (lacks-back (bound_names proc.pre) (bound_names proc.post ++ block_bound (block_of proc.body)) y (proc-free number proc e))

    protocol-free : (o : Option ℕ) → has (protocol_bound (protocol_in d.inst o)) y ≡ false
    protocol-free (Some p) = each-get (λ protocol. has (protocol_bound protocol) y ≡ false) d.inst.protocols p no_protocol refl (lacks-each protocol_bound d.inst.protocols y (lacks-front of_protocols (of_hooks ++ (of_invariants ++ of_procs)) y free))
    protocol-free None = refl

    tag-free : (label tag : ℕ) → has (tag_bound (tag_at d.inst label tag)) y ≡ false
    tag-free label tag =
        let protocol = protocol_at d.inst label in
        each-get (λ (t : Tag). has (tag_bound t) y ≡ false) protocol.tags tag no_tag refl
        (lacks-each tag_bound protocol.tags y (lacks-front (flat_map tag_bound protocol.tags) (coherence_bound protocol.coherence) y (protocol-free (slice_get d.inst.of label))))

    pub send-guard-free : (label tag : ℕ) → has (bound_names (tag_at d.inst label tag).send.guard) y ≡ false
    send-guard-free label tag = lacks-front (bound_names (tag_at d.inst label tag).send.guard) (transition_bound (tag_at d.inst label tag).receive) y (tag-free label tag)

    pub receive-guard-free : (label tag : ℕ) → has (bound_names (receive_of (tag_at d.inst label tag)).guard) y ≡ false
    receive-guard-free label tag = at (tag_at d.inst label tag).receive (lacks-back (bound_names (tag_at d.inst label tag).send.guard) (transition_bound (tag_at d.inst label tag).receive) y (tag-free label tag))
      where
        at : (o : Option Transition) → has (transition_bound o) y ≡ false → has (bound_names (unwrap_or o never).guard) y ≡ false
        at (Some transition) h = h
        at None h = refl
