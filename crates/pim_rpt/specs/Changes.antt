-- What becomes of a timer, as the definitions have it.
use Rattle.pim_model.{specs.Upstream.{Cancel, Keep, LowerTo, SetTo, TimerChange}}
use Rattle.pim_rpt.{specs.declared.change.Change.Change}

unfoldable pub change_of : Change → TimerChange
change_of Change.Keep = Keep
change_of Change.Cancel = Cancel
change_of (Change.SetTo end) = SetTo end
change_of (Change.LowerTo end) = LowerTo end
