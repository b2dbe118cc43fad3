-- What follows the tests of a part of a message.
use Rattle.std.{proofs.{Common.{◌≡◌, ◌≤◌, List, ℕ, length, Result, Ok, Err, ap, arith}, lemmas.Bool.Decides.nat_tests}}
use Rattle.pim_ip.{specs.{declared.refusal.Refusal.Refusal, Tests.◌>>◌, Checksum.sum16}}
use Rattle.igmp_wire.{specs.{declared.view.IgmpView.TheVariants.{Query as AsQuery, Report as AsReport}, Values.{Query, Record}, Queries.{query_test, query_of}, Reports.{report_test, report_of}, Messages.{type_of, igmp_reading}, Parts.{query_reading, report_reading}}}

-- another value after the same tests
passed : {X Y : Type 0} (f : X → Y) (tests : Result (Unit {0}) Refusal) (x y : X) → (tests >> Ok x) ≡ Ok y → (tests >> Ok (f x)) ≡ Ok (f y)
passed f (Ok t) x y e = let same : x ≡ y = cc in ap (λ z. Ok (f z)) same
passed f (Err r) x y e = absurd (cc)

refused : {X Y : Type 0} (f : X → Y) (tests : Result (Unit {0}) Refusal) (x : X) (r : Refusal) → (tests >> Ok x) ≡ Err r → (tests >> Ok (f x)) ≡ Err r
refused f (Ok t) x r e = absurd (cc)
refused f (Err q) x r e = cc

module _ (b : List ℕ) where
  pub query_read : (q : Query) → query_reading b ≡ Ok q → (query_reading b ≡ Ok q) × ((query_test b >> Ok (AsQuery (query_of b))) ≡ Ok (AsQuery q))
  unfolding query_reading
  query_read q e = (e, passed AsQuery (query_test b) (query_of b) q e)

  pub query_refused : (r : Refusal) → query_reading b ≡ Err r → (query_reading b ≡ Err r) × ((query_test b >> Ok (AsQuery (query_of b))) ≡ Err r)
  unfolding query_reading
  query_refused r e = (e, refused AsQuery (query_test b) (query_of b) r e)

  pub report_read : (rs : List Record) → report_reading b ≡ Ok rs → (report_reading b ≡ Ok rs) × ((report_test b >> Ok (AsReport (report_of b))) ≡ Ok (AsReport rs))
  unfolding report_reading
  report_read rs e = (e, passed AsReport (report_test b) (report_of b) rs e)

  pub report_refused : (r : Refusal) → report_reading b ≡ Err r → (report_reading b ≡ Err r) × ((report_test b >> Ok (AsReport (report_of b))) ≡ Err r)
  unfolding report_reading
  report_refused r e = (e, refused AsReport (report_test b) (report_of b) r e)

  -- a message whose part is refused
  pub message_refused_as_query : (r : Refusal) → 8 ≤ length b → sum16 b ≡ 0 → type_of b ≡ 0x11 → query_reading b ≡ Err r → igmp_reading b ≡ Err r
  unfolding igmp_reading
  message_refused_as_query r long sum type e = let part = query_refused r e in grind (arith, nat_tests)

  pub message_refused_as_report : (r : Refusal) → 8 ≤ length b → sum16 b ≡ 0 → type_of b ≡ 0x22 → report_reading b ≡ Err r → igmp_reading b ≡ Err r
  unfolding igmp_reading
  message_refused_as_report r long sum type e = let part = report_refused r e in grind (arith, nat_tests)

-- what is made of the reading of a part
pub ruleset part_read = (query_read, query_refused, report_read, report_refused)
