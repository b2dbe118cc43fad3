use Rattle.pim_bootstrap.{proofs.AdvertisementReads.advertisement_is_tested}
use Rattle.pim_bootstrap.proofs.laws.advertisement_is_tested.Goals as goal

pub returns : goal.returns
returns c = advertisement_is_tested
