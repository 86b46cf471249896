-- The number of each cause, and its words. Assumes nothing.
use Rattle.std.specs.Prelude.{ℕ, List, codes}
use Rattle.fault.specs.declared.kinds.Cause.{Cause}
use Rattle.fault.specs.declared.kinds.Cause.TheVariants.{BadPlan, CatalogueFull, FieldCount, LinkMask, NoCursor, EmptyCursor, NoField, WrongKind, AbsentLink, NoPage, CheckDiffers, HeadTooLarge, UndeclaredType, ObjectTooLong, BadLink, NotZero, NoAddresses, NoObject, PageClosed, NoRoom, NoType, WrongLength}

abbrev pub number : Cause → ℕ
number BadPlan = 1
number CatalogueFull = 2
number FieldCount = 3
number LinkMask = 4
number NoCursor = 5
number EmptyCursor = 6
number NoField = 7
number WrongKind = 8
number AbsentLink = 9
number NoPage = 10
number CheckDiffers = 12
number HeadTooLarge = 13
number UndeclaredType = 14
number ObjectTooLong = 15
number BadLink = 16
number NotZero = 17
number NoAddresses = 18
number NoObject = 19
number PageClosed = 20
number NoRoom = 21
number NoType = 22
number WrongLength = 23

abbrev pub wording : Cause → List ℕ
wording BadPlan = codes "the plan is not allowed"
wording CatalogueFull = codes "the catalogue has 32 types"
wording FieldCount = codes "a type has 1 to 62 fields"
wording LinkMask = codes "the link mask has a bit at or above the size"
wording NoCursor = codes "no such cursor"
wording EmptyCursor = codes "the cursor is empty"
wording NoField = codes "no such field"
wording WrongKind = codes "the field is of the other kind"
wording AbsentLink = codes "the link is absent"
wording NoPage = codes "no such page"
wording CheckDiffers = codes "the page differs from its check"
wording HeadTooLarge = codes "the head is above 63"
wording UndeclaredType = codes "the header is not a declared type"
wording ObjectTooLong = codes "the object runs past the used cells"
wording BadLink = codes "the link is neither absent nor a long pointer"
wording NotZero = codes "a cell after the used ones is not zero"
wording NoAddresses = codes "addresses run out"
wording NoObject = codes "no object starts there"
wording PageClosed = codes "the page is closed to writing"
wording NoRoom = codes "the page has no room"
wording NoType = codes "the type is not declared"
wording WrongLength = codes "a page has 512 bytes"
