-- The number of each denial, in checking order. Assumes nothing.
use Rattle.std.specs.Prelude.{ℕ}
use Rattle.circle.specs.declared.denial.Denial.{Denial}
use Rattle.circle.specs.declared.denial.Denial.TheVariants.{Places, NoSuchId, Threshold, Length, NotOnRoll, AlreadyOnRoll, WrongHelpers, TooFewLeft, LastEpoch, AlreadyContributed, ContributionMissing, TooFewCards, IdTwice, OtherEpoch, OffPolynomial}

abbrev pub number : Denial → ℕ
number Places = 9
number NoSuchId = 10
number Threshold = 11
number Length = 12
number NotOnRoll = 13
number AlreadyOnRoll = 14
number WrongHelpers = 15
number TooFewLeft = 16
number LastEpoch = 17
number AlreadyContributed = 18
number ContributionMissing = 19
number TooFewCards = 20
number IdTwice = 21
number OtherEpoch = 22
number OffPolynomial = 23
