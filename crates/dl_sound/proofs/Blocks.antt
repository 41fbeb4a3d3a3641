-- One block and then another.
use Rattle.std.proofs.Common.{◌≡◌, ℕ, ℤ, pos, true, false, not, ◌||◌, refl, ap, sym, subst, cond}
use Rattle.dl_term.specs.Names.{with_number}
use Rattle.dl_model.specs.Block.{Block, Done, Sends, Awaits, Polls, Reads, Sets, Ifs, Whiles, Calls, joined}
use Rattle.dl_model.specs.Sorts.{is_i64}
use Rattle.dl_model.specs.Lookup.{proc_at}
use Rattle.dl_model.specs.Steps.{Sending, Receiving, CanStep, after_step, message_in}
use Rattle.dl_model.specs.Words.{result_word}
use Rattle.dl_model.specs.Machine.{value_of, values_of, index_value, passes, got_names, entry_names}
use Rattle.dl_model.specs.Runs.{index_or_0}
use Rattle.dl_sound.proofs.Needed.{BlockNeeds}
use Rattle.dl_sound.specs.Obligations.{Test, ready, BlockObligations, Wherever, IsAllowed}
use Rattle.dl_term.specs.State.{field_at}
use Rattle.dl_model.specs.declared.file.Decls.{Decls}

pub ready-joined : (a b : Block) (after : Test) → ready (joined a b) after ≡ ready a (ready b after)
ready-joined Done b after = refl
ready-joined (Sends note label tag to args rest) b after = refl
ready-joined (Awaits note label tag sender args rest) b after = refl
ready-joined (Polls note got label tag sender args rest) b after = refl
ready-joined (Reads note into label field index rest) b after = refl
ready-joined (Sets target value rest) b after =
    ap {B = Test} (λ (C : Test) names s. not (is_i64 (value_of value names)) || C (with_number names target (value_of value names)) s) (ready-joined rest b after)
ready-joined (Ifs test left right rest) b after = ap {B = Test} (λ (C : Test) names s. cond (passes test names) (ready left C names s) (ready right C names s)) (ready-joined rest b after)
ready-joined (Whiles test note body rest) b after = refl
ready-joined (Calls note frame into callee args rest) b after = refl

pub formed-joined : (d : Decls) (proc : ℕ) (a b : Block) → BlockNeeds d proc a → BlockNeeds d proc b → BlockNeeds d proc (joined a b)
formed-joined d proc Done b h k = k
formed-joined d proc (Sends note label tag to args rest) b h k = (h.0, h.1, formed-joined d proc rest b h.2 k)
formed-joined d proc (Awaits note label tag sender args rest) b h k = (h.0, h.1, h.2, h.3, formed-joined d proc rest b h.4 k)
formed-joined d proc (Polls note got label tag sender args rest) b h k = (h.0, h.1, h.2, h.3, h.4, formed-joined d proc rest b h.5 k)
formed-joined d proc (Reads note into label field index rest) b h k = (h.0, h.1, formed-joined d proc rest b h.2 k)
formed-joined d proc (Sets target value rest) b h k = (h.0, formed-joined d proc rest b h.1 k)
formed-joined d proc (Ifs test left right rest) b h k = (h.0, h.1, formed-joined d proc rest b h.2 k)
formed-joined d proc (Whiles test note body rest) b h k = (h.0, h.1, formed-joined d proc rest b h.2 k)
formed-joined d proc (Calls note frame into callee args rest) b h k = (h.0, h.1, h.2, h.3, formed-joined d proc rest b h.4 k)

pub duties-joined : (d : Decls) (proc : ℕ) (a b : Block) (after : Test) → BlockObligations d proc a (ready b after) → BlockObligations d proc b after → BlockObligations d proc (joined a b) after
duties-joined d proc Done b after h k = k
duties-joined d proc (Sends note label tag to args rest) b after h k = record {
  guard = h.guard;
  sent = subst (λ (C : Test). Wherever d proc note (λ node names s. IsAllowed d proc node s (Sending label tag (value_of to names) (values_of args names)) →
      C names (after_step d.inst s node (Sending label tag (value_of to names) (values_of args names))) ≡ true)) (sym (ready-joined rest b after)) h.sent;
  stable = h.stable;
  after_it = duties-joined d proc rest b after h.after_it k;
}
duties-joined d proc (Awaits note label tag sender args rest) b after h k = record {
  taken = subst (λ (C : Test). Wherever d proc note (λ node names s. (id : ℕ) → (message_in s label id).tag ≡ tag → CanStep d.inst s node (Receiving label id) →
      C (got_names names sender args (message_in s label id).from (message_in s label id).args) (after_step d.inst s node (Receiving label id)) ≡ true)) (sym (ready-joined rest b after)) h.taken;
  stable = h.stable;
  after_it = duties-joined d proc rest b after h.after_it k;
}
duties-joined d proc (Polls note got label tag sender args rest) b after h k = record {
  taken = subst (λ (C : Test). Wherever d proc note (λ node names s. (id : ℕ) → (message_in s label id).tag ≡ tag → CanStep d.inst s node (Receiving label id) →
      C (got_names (with_number names got (pos 1)) sender args (message_in s label id).from (message_in s label id).args) (after_step d.inst s node (Receiving label id)) ≡ true)) (sym (ready-joined rest b after)) h.taken;
  missed = subst (λ (C : Test). Wherever d proc note (λ node names s. C (with_number names got (pos 0)) s ≡ true)) (sym (ready-joined rest b after)) h.missed;
  stable = h.stable;
  after_it = duties-joined d proc rest b after h.after_it k;
}
duties-joined d proc (Reads note into label field index rest) b after h k = record {
  read = subst (λ (C : Test). Wherever d proc note (λ node names s. C (with_number names into (field_at s label field (pos node) (index_or_0 (index_value index names)))) s ≡ true)) (sym (ready-joined rest b after)) h.read;
  stable = h.stable;
  after_it = duties-joined d proc rest b after h.after_it k;
}
duties-joined d proc (Sets target value rest) b after h k = duties-joined d proc rest b after h k
duties-joined d proc (Ifs test left right rest) b after h k = record {
  if_true = subst (λ (C : Test). BlockObligations d proc left C) (sym (ready-joined rest b after)) h.if_true;
  if_false = subst (λ (C : Test). BlockObligations d proc right C) (sym (ready-joined rest b after)) h.if_false;
  after_it = duties-joined d proc rest b after h.after_it k;
}
duties-joined d proc (Whiles test note body rest) b after h k = record {
  turn = h.turn;
  exit = subst (λ (C : Test). Wherever d proc note (λ node names s. passes test names ≡ false → C names s ≡ true)) (sym (ready-joined rest b after)) h.exit;
  stable = h.stable;
  inside = h.inside;
  after_it = duties-joined d proc rest b after h.after_it k;
}
duties-joined d proc (Calls note frame into callee args rest) b after h k = record {
  sorted = h.sorted;
  entered = h.entered;
  framed = h.framed;
  left = subst (λ (C : Test). Wherever d proc frame (λ node names s. (v : ℤ) → is_i64 v ≡ true →
      Rattle.dl_term.specs.Meaning.holds (proc_at d.procs callee).post (with_number (entry_names (proc_at d.procs callee) (pos node) (values_of args names)) result_word v) s ≡ true →
      C (with_number names into v) s ≡ true)) (sym (ready-joined rest b after)) h.left;
  stable = h.stable;
  keeps = h.keeps;
  after_it = duties-joined d proc rest b after h.after_it k;
}
