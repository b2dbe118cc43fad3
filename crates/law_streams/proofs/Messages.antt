-- What is settled after a change is messages of the router's own.
use Rattle.std.{proofs.Common.{ℕ, zero, suc, List, [], ◌∷◌, Option, Some, None, refl}, specs.List.AllByRecursion}
use Rattle.pim_types.{specs.declared.outcome.Emission.Emission}
use Rattle.pim_model.{specs.{Firing.{fire_all, fire_instant, fire_once, settled}, Messages.Message, Querier.each_in_turn, Repeat.{after_next, and_then, until_none}, State.{InterfaceTable, State}, Timers.{Ending, next_due}, Writing.{all_written, emission_of, hello_emission, hello_paid, is_hello_owed, pim_on_link, pim_to, with_owed_hello, write_all, written}}}
use Rattle.law_settled.{proofs.ListLaws.{by_cond, each_append}}
use Rattle.law_streams.{specs.Data.IsMessage}

a_message : (t : InterfaceTable) (m : Message) → IsMessage (emission_of t m)
unfolding emission_of hello_emission pim_on_link pim_to
a_message t (Message.Hello i) = record { table = t; message = Message.Hello i; is = refl; on_link = refl }
a_message t (Message.JoinPrune i u g j p) = record { table = t; message = Message.JoinPrune i u g j p; is = refl; on_link = refl }
a_message t (Message.Assert i g src m) = record { table = t; message = Message.Assert i g src m; is = refl; on_link = refl }
a_message t (Message.Query i q) = record { table = t; message = Message.Query i q; is = refl; on_link = refl }
a_message t (Message.RegisterStop from to g src) = record { table = t; message = Message.RegisterStop from to g src; is = refl; on_link = refl }
a_message t (Message.NullRegister from to src g) = record { table = t; message = Message.NullRegister from to src g; is = refl; on_link = refl }

a_hello : (t : InterfaceTable) (i : ℕ) → IsMessage (hello_emission t i)
unfolding emission_of hello_emission pim_on_link
a_hello t i = record { table = t; message = Message.Hello i; is = refl; on_link = refl }

abbrev pub Own : List Emission → Type 0
Own = AllByRecursion IsMessage

own_with_hello : (t : InterfaceTable) (i : ℕ) (m : Message) → Own (with_owed_hello t i (emission_of t m)).1
unfolding with_owed_hello
own_with_hello t i m =
    by_cond (λ (p : InterfaceTable × List Emission). Own p.1) (is_hello_owed t i)
    (hello_paid t i, hello_emission t i ∷ emission_of t m ∷ []) (t, emission_of t m ∷ [])
    (a_hello t i, (a_message t m, tt)) (a_message t m, tt)

own_written : (t : InterfaceTable) (m : Message) → Own (written t m).1
unfolding written
own_written t (Message.Hello i) = (a_hello t i, tt)
own_written t (Message.JoinPrune i u g j p) = own_with_hello t i (Message.JoinPrune i u g j p)
own_written t (Message.Assert i g src m) = own_with_hello t i (Message.Assert i g src m)
own_written t (Message.Query i q) = (a_message t (Message.Query i q), tt)
own_written t (Message.RegisterStop from to g src) = (a_message t (Message.RegisterStop from to g src), tt)
own_written t (Message.NullRegister from to src g) = (a_message t (Message.NullRegister from to src g), tt)

own_in_turn : (ms : List Message) (t : InterfaceTable) → Own (each_in_turn written t ms).1
unfolding each_in_turn
own_in_turn [] t = tt
own_in_turn (m ∷ ms) t =
    each_append IsMessage (written t m).1 (each_in_turn written (written t m).0 ms).1 (own_written t m)
    (own_in_turn ms (written t m).0)

pub own_settled : (o : State) (c : State × List Message) (w : ℕ) → Own (settled o c w).1
unfolding settled write_all all_written
own_settled o c w = own_in_turn _ _

-- ---- again and again

module _ {S D E : Type 0} (P : E → Type 0) (next : S → Option D) (once : S → D → S × List E)
    (each : (s : S) (d : D) → AllByRecursion P (once s d).1) where
  each_turn : (later : S → S × List E) → ((t : S) → AllByRecursion P (later t).1) → (s : S) (o : Option D)
      → AllByRecursion P (after_next next once later s o).1
  unfolding after_next and_then
  each_turn later ih s None = tt
  each_turn later ih s (Some d) = each_append P (once s d).1 (later (once s d).0).1 (each s d) (ih (once s d).0)

  each_until : (n : ℕ) (s : S) → AllByRecursion P (until_none next once n s).1
  unfolding until_none
  each_until zero s = tt
  each_until (suc n) s = each_turn (λ t. until_none next once n t) (each_until n) s (next s)

own_once : (w : ℕ) (s : State) (e : Ending) → Own (fire_once w s e).1
unfolding fire_once
own_once w s e = own_settled s _ w

own_instant : (w : ℕ) (s : State) (e : Ending) → Own (fire_instant w s e).1
unfolding fire_instant
own_instant w s e = each_until IsMessage (next_due e.end) (fire_once w) (own_once w) _ s

pub own_all : (w moment : ℕ) (s : State) → Own (fire_all w moment s).1
unfolding fire_all
own_all w moment s = each_until IsMessage (next_due moment) (fire_instant w) (own_instant w) _ s
