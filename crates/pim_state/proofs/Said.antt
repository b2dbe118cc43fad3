-- Messages behind the others, none and some.
use Rattle.std.{proofs.Common.{◌≡◌, List, [], ◌++◌, ap, append-nil, append_assoc}}
use Rattle.pim_model.{specs.Messages.Message}
use Rattle.pim_state.{specs.Turns.{Taking, saying}}

pub said_nothing : (t : Taking) → saying t [] ≡ t
said_nothing t = ap (λ (ms : List Message). let u : Taking = record t { messages = ms } in u) (append-nil t.messages)

pub said_both : (t : Taking) (ms ns : List Message) → saying (saying t ms) ns ≡ saying t (ms ++ ns)
said_both t ms ns =
    ap (λ (xs : List Message). let u : Taking = record t { messages = xs } in u) (append_assoc t.messages ms ns)
