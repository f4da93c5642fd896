-- A finished cycle of crate `cycle` is a cycle of calls, of which the laws of lists say what it does. Assumes nothing.
use Rattle.std.proofs.Common.{◌≡◌, ℕ, true, false, List, [], refl, sym, ap, ◌∙◌, arith, Ok, Err, Result}
use Rattle.std.specs.Result.{is_ok}
use borrow.Author.Tests.{eq-eqb}
use Rattle.refusal.specs.declared.Refusal.{Refusal}
use Rattle.stages.specs.declared.State.{State}
use Rattle.stages.specs.declared.FetchAnswer.{FetchAnswer}
use Rattle.stages.specs.declared.DecodeAnswer.{DecodeAnswer}
use Rattle.stages.specs.declared.OperandsAnswer.{OperandsAnswer}
use Rattle.stages.specs.declared.ExecuteAnswer.{ExecuteAnswer}
use Rattle.stages.specs.declared.Staged.{Staged}
use Rattle.stages.specs.State.{settled, refused_with}
use Rattle.stages.specs.Decode.{decode_refusal, decode_done, decode_of}
use Rattle.stages.specs.Fetch.{query_of}
use Rattle.stages.specs.Execute.{execute_store}
use Rattle.cycle.specs.declared.Input.{Input}
use Rattle.cycle.specs.declared.Cycled.{Cycled}
use Rattle.cycle.specs.Cycle.{fetch_in, decode_in, operands_in, execute_in, then_or, cycle_of, cycle_store, decode_charge, cycle_charge}
use Rattle.lists.specs.Machine.{Outcome, charge_of}
use Rattle.lists.specs.Laws.{Performs}
use Rattle.lists.specs.Lists.{Cycle, calls_made, charge}
use Rattle.lists.proofs.Cycles.{Does, does}
use Rattle.claims.specs.Core.{core, execute_outcome}
use Rattle.claims.proofs.CoreLaws.{laws}
use Rattle.claims.proofs.Views.{by_number}
use Rattle.cycle.proofs.CycleLaws.{Gives, done}

-- what went on after an answer that was finished
record Went {A : Type 0} (a : Result A Refusal) (next : A → Cycled) : Type 0 where
  pub value : A
  pub is : a ≡ Ok value
  pub on : is_ok (next value).answer ≡ true

went : {A : Type 0} (a : Result A Refusal) (next : A → Cycled) (refused : Refusal → Cycled) → ((r : Refusal) → is_ok (refused r).answer ≡ false)
    → is_ok (then_or a next refused).answer ≡ true → Went a next
went (Ok value) next refused f e = record { value = value; is = refl; on = e }
went (Err r) next refused f e = absurd (grind (arith, f r))

-- a finished answer is none of a refusal
pub not_refused : {A : Type 0} (n : ℕ) (s : State) (done : Staged A) (answer : A) → (settled n (refused_with s) done).answer ≡ Ok answer → n ≡ 0
not_refused n s done answer e = by_number (λ r. r.answer ≡ Ok answer → n ≡ 0) n (refused_with s) done (λ z e. z) (λ z e. absurd (cc)) e

module _ (input : Input) (s : State) (store : List ℕ) where
  -- the calls of a cycle
  abbrev pub cycle_from : Cycle core
  cycle_from = record {
    fetch = record { input = record { settings = input.settings; word = input.code }; state = s; store = store };
    decode = record { input = record { settings = input.settings; records = input.records }; state = (fetch_in input s store).state; store = store };
    operands = record { input = input.settings; state = (decode_in input s store).state; store = store };
    execute = record { input = record { settings = input.settings; input = input.execute }; state = (operands_in input s store).state; store = store };
  }

  -- the answers of a finished cycle
  pub record Finished : Type 0 where
    pub fetch : FetchAnswer
    pub decode : DecodeAnswer
    pub operands : OperandsAnswer
    pub execute : ExecuteAnswer
    pub fetched : (fetch_in input s store).answer ≡ Ok fetch
    pub decoded : (decode_in input s store).answer ≡ Ok decode
    pub addressed : (operands_in input s store).answer ≡ Ok operands
    pub executed : (execute_in input s store).answer ≡ Ok execute

  pub all_finished : is_ok (cycle_of input s store).answer ≡ true → Finished
  unfolding cycle_of
  all_finished e =
      let f = went (fetch_in input s store).answer _ _ (λ r. refl) e in
      let d = went (decode_in input s store).answer _ _ (λ r. refl) f.on in
      let o = went (operands_in input s store).answer _ _ (λ r. refl) d.on in
      let x = went (execute_in input s store).answer _ _ (λ r. refl) o.on in
      record {
        fetch = f.value;
        decode = d.value;
        operands = o.value;
        execute = x.value;
        fetched = f.is;
        decoded = d.is;
        addressed = o.is;
        executed = x.is;
      }

  module _ (f : Finished) where
    abbrev cycled : Cycled
    cycled = record {
      state = (execute_in input s store).state;
      answer = Ok (record { read = query_of s; fetch = f.fetch; decode = f.decode; operands = f.operands; execute = f.execute });
    }

    abbrev stored : List ℕ
    stored = execute_store 16 input.settings input.execute (operands_in input s store).state store

    gives : Gives input s store cycled stored
    gives =
        done input s store (fetch_in input s store) refl f.fetch f.fetched (decode_in input s store) refl f.decode f.decoded (operands_in input s store) refl f.operands
        f.addressed (execute_in input s store) stored (refl, refl) f.execute f.executed (query_of s) refl

    pub cycle_is : cycle_of input s store ≡ cycled
    cycle_is = sym gives.0

    pub store_is : cycle_store input s store ≡ stored
    store_is = sym gives.1

    pub cycle_does : Does core cycle_from
    unfolding calls_made
    cycle_does =
        does core laws s store cycle_from [] []
        (refl, refl, rw f.fetched refl, (refl, refl, rw f.decoded refl, (refl, refl, rw f.addressed refl, (refl, refl, rw f.executed refl, tt))))

    -- the state that execute is given, what it gives, and that this is what the kept record says
    abbrev pub reach : State
    reach = (operands_in input s store).state

    abbrev pub out : Outcome State
    out = execute_outcome cycle_from.execute.input reach store

    pub performs : Performs core (core.kept reach) cycle_from.execute.input reach store out
    performs = laws.execute_performs cycle_from.execute.input reach store (rw f.executed refl)

    pub charge_is : cycle_charge (cycle_of input s store).answer ≡ charge core cycle_from
    unfolding charge charge_of decode_of decode_done
    charge_is =
        let given = (fetch_in input s store).state in
        let n = not_refused (decode_refusal input.settings input.records given store) given (decode_done input.settings input.records given) f.decode f.decoded in
        ap (λ (c : Cycled). cycle_charge c.answer) cycle_is ∙ sym (ap decode_charge f.decoded) ∙ rw (eq-eqb _ 0 n) refl
