-- `put_refusal` meets its contract.
use native.Mathlib.Omega.{arith}
use Rattle.log_replay.proofs.Playing.{refusal-put}
use Rattle.log_replay.proofs.put_refusal.Goals as goal

pub returns : goal.returns
returns c = refusal-put c.reported.ensures c.put_report-m.ensures.puts (omega (arith, c.put_report-m.ensures.upper_bound)) c.put_all.ensures
